-- Settling a parameter keeps the invariant, and answers what the parameter stands for afterwards: by the three cases of what is left of the results.
-- Assumes nothing.
use Prim.Native.Nat.{ℕ}
use mathlib.Core.Path.{◌≡◌, refl, sym, ap, ◌∙◌, subst}
use mathlib.Core.Logic.{◌≢◌, ◌⊎◌, inl, inr}
use mathlib.Core.Bool.{Bool, true, false, cond}
use mathlib.Core.Option.{Option, none, some}
use mathlib.Core.List.{List, [], ◌∷◌, ◌++◌, map}
use lib.Dec.{eqb}
use lib.ListN.{length}
use native.Mathlib.Omega.{arith}
use Rattle.entity.specs.Types.{step_of}
use Rattle.definition.specs.Form.{with_zeros, with_placed, with_makes, Graph, Form, Info, nought, caller, with_args}
use Rattle.definition.specs.Base.{put, without, every}
use Rattle.definition.specs.Read.{Got, resolve, make, alias, place_block, log_zero, emit_step, feed_all, settle_left, settle}
use Rattle.meaning.specs.Path.{In}
use Rattle.meaning.specs.Stored.{Nodup}
use Rattle.meaning.proofs.Maps.{put_same, eqb_eq, and_both}
use Rattle.meaning.proofs.Facts.{same}
use Rattle.meaning.proofs.Alias.{root_is, follow_root}
use Rattle.meaning.proofs.Lists.{without_in, map_in, left_of, in_map}
use Rattle.meaning.proofs.Inv.{Grow, grow_trans, def_grow, Param, Inv, make_inv, make_grow, alias_inv, alias_grow, alias_keep}
use Rattle.meaning.proofs.Inv.{alias_move, x_pending, x_par, grow_refl, Work, Frame}
use Rattle.meaning.proofs.Keeping.{Results, result_of, keep_inv}

all_same : (y : ℕ) (ys : List ℕ) → every (eqb y) ys ≡ true → (z : ℕ) → In z (y ∷ ys) → z ≡ y
all_same y [] e z (inr x5) = elim x5 [ ]
all_same y ys e z (inl q) = q
all_same y (u ∷ ys) e z (inr (inl q)) = q ∙ sym (eqb_eq y u (and_both (eqb y u) (every (eqb y) ys) e).0)
all_same y (u ∷ ys) e z (inr (inr i)) = all_same y ys (and_both (eqb y u) (every (eqb y) ys) e).1 z (inr i)

-- the logs and the count of made values don't matter
abbrev relog : List (ℕ × ℕ) → List ℕ → ℕ → Form → Form
relog z l m s = with_zeros (with_placed (with_makes s m) l) z

pub relog_inv : (g : Graph) (E : Frame) (z : List (ℕ × ℕ)) (l : List ℕ) (m : ℕ) (s : Form) (kp : ℕ → List ℕ) (op : Work)
    → Inv g E s kp op → Inv g E (relog z l m s) kp op
relog_inv g E z l m s kp op h =
    record {
      known = h.known;
      edge = h.edge;
      first = h.first;
      pend = h.pend;
      listed = h.listed;
      owned = h.owned;
      passed = h.passed;
      gave = h.gave;
      aliased = h.aliased;
    }

not_caller : nought ≡ caller → ⊥
not_caller e = let d : ◌≡◌ {A = ℕ} 0 1 = cc in omega arith

-- from s to t all stays, and the invariant holds
record SteppedOn (g : Graph) (E : Frame) (s : Form) (kp : ℕ → List ℕ) (op : Work) (t : Form) : Type 1 where
  inv : Inv g E t kp op
  grow : Grow s t

-- the first step of a zero, if there is one
step_inv : (g : Graph) (E : Frame) (s : Form) (kp : ℕ → List ℕ) (op : Work) → Inv g E s kp op → (b : ℕ) (o : Option ℕ)
    → SteppedOn g E s kp op (emit_step o b s)
step_inv g E s kp op h b none = record { inv = h; grow = grow_refl s }
step_inv g E s kp op h b (some t) = record { inv = make_inv g E s kp op h nought t b not_caller; grow = make_grow g E s kp op h nought t b not_caller }

module _ (g : Graph) (E : Frame) where
  pub record Settled (s : Form) (op : Work) (x : ℕ) (r : Got) : Type 0 where
    pub kp : ℕ → List ℕ
    pub inv : Inv g E r.1 kp op
    pub grow : Grow s r.1
    pub alike : resolve r.1 r.0 ≡ resolve r.1 x

  module _ (s : Form) (kp : ℕ → List ℕ) (op : Work) (h : Inv g E s kp op) (v b x : ℕ) (ws : List (ℕ × ℕ))
      (seal : g.sealed b ≡ true) (at : op b ≡ (v, x) ∷ ws) (rs : List ℕ) (len : length rs ≡ length (g.preds b))
      (res : E.sup → Results v s (g.preds b) rs) (nd : Nodup (g.preds b)) where
    x_is : Param s b x
    x_is = x_par g E s kp op h v b x ws seal at

    x_root : resolve s x ≡ x
    x_root = follow_root s.target s.next x x_is.root

    -- none left: a zero
    zero_case : ((r : ℕ) → In r rs → resolve s r ≡ x) → Settled s (put b ws op) x (settle_left g b x rs s [])
    zero_case all = record {
      kp = kp;
      inv = alias_inv g E s₂ kp op inv₂ v b x ws seal at z z_root differ
          (λ ok. same seal (λ p i. let k = result_of v s (g.preds b) rs p (res ok) i in
          (k.1, def_grow s s₃ grow₃ v p k.1 k.2, grow₃.res k.1 x (sym k.3 ∙ all k.0 k.4 ∙ sym x_root))))
          (λ _ _. record {
            sort = ap (λ (j : Info). j.sort) z_info;
            home = ap (λ (j : Info). j.home) z_info;
            type = ap (λ (j : Info). j.type) z_info ∙ (h.pend v b x (x_pending g E s kp op h v b x ws seal at)).1;
            below = rw x_now (omega arith);
          });
      grow = grow₃;
      alike = alias_keep g E s₂ kp op inv₂ v b x ws seal at z z_root differ z (λ e. differ (sym z_now ∙ e)) ∙ z_now ∙ sym x_now;
    }
      where
        ty : ℕ
        ty = (s.info x).type

        s₀ : Form
        s₀ = log_zero g.call b (place_block b s)

        s₁ : Form
        s₁ = emit_step (step_of ty) b s₀

        z : ℕ
        z = s₁.next

        new : Info
        new = record { sort = nought; type = ty; home = b }

        s₂ : Form
        s₂ = make nought ty b s₁

        s₃ : Form
        s₃ = alias b x z s₂

        one : SteppedOn g E s₀ kp op s₁
        one = step_inv g E s₀ kp op (relog_inv g E s₀.zeros s₀.placed s.makes s kp op h) b (step_of ty)

        inv₂ : Inv g E s₂ kp op
        inv₂ = make_inv g E s₁ kp op one.inv nought ty b not_caller

        z_root : s₂.target z ≡ z
        z_root = one.inv.aliased.fresh z (omega arith)

        differ : z ≢ x
        differ e = omega (arith, x_is.below, one.grow.more)

        grow₃ : Grow s s₃
        grow₃ = grow_trans s s₁ s₃ one.grow
            (grow_trans s₁ s₂ s₃ (make_grow g E s₁ kp op one.inv nought ty b not_caller) (alias_grow g E s₂ kp op inv₂ v b x ws seal at z z_root differ))

        z_now : resolve s₂ z ≡ z
        z_now = follow_root s₂.target s₂.next z z_root

        x_now : resolve s₃ x ≡ z
        x_now = alias_move g E s₂ kp op inv₂ v b x ws seal at z z_root differ x
            (follow_root s₂.target s₂.next x (x_par g E s₂ kp op inv₂ v b x ws seal at).root)

        z_info : s₃.info (resolve s₃ x) ≡ new
        z_info = ap s₃.info x_now ∙ put_same s₁.next new s₁.info

    -- one distinct
    one_case : (y : ℕ) → s.target y ≡ y → y ≢ x → (g.preds b ≡ [] → ⊥)
        → ((r : ℕ) → In r rs → (resolve s r ≡ x) ⊎ (resolve s r ≡ y)) → Settled s (put b ws op) x (y, alias b x y s)
    one_case y ry d some_pred all = record {
      kp = kp;
      inv = alias_inv g E s kp op h v b x ws seal at y ry d
          (λ ok. same seal (λ p i. let k = result_of v s (g.preds b) rs p (res ok) i in (
            k.1,
            def_grow s (alias b x y s) grow v p k.1 k.2,
            elim (all k.0 k.4) [
              | inl e ↦ grow.res k.1 x (sym k.3 ∙ e ∙ sym x_root)
              | inr e ↦ alias_keep g E s kp op h v b x ws seal at y ry d k.1 (λ i. d (sym e ∙ k.3 ∙ i)) ∙ sym k.3 ∙ e ∙ sym x_now
            ],
          )))
          (λ _ empty. absurd (some_pred empty));
      grow = grow;
      alike = alias_keep g E s kp op h v b x ws seal at y ry d y (λ e. d (sym y_old ∙ e)) ∙ y_old ∙ sym x_now;
    }
      where
        grow : Grow s (alias b x y s)
        grow = alias_grow g E s kp op h v b x ws seal at y ry d

        x_now : resolve (alias b x y s) x ≡ y
        x_now = alias_move g E s kp op h v b x ws seal at y ry d x x_root

        y_old : resolve s y ≡ y
        y_old = follow_root s.target s.next y ry

    -- more
    more_case : (g.preds b ≡ [] → ⊥) → Settled s (put b ws op) x (x, with_args s (feed_all g b (g.preds b) rs s.args))
    more_case some_pred = record {
      kp = put b (kp b ++ x ∷ []) kp;
      inv = keep_inv g E s kp op h v b x ws seal at rs len res nd some_pred;
      grow = grow_refl s;
      alike = refl;
    }

    -- a result is x or is left
    result_is : (r : ℕ) → In r rs → (resolve s r ≡ x) ⊎ In (resolve s r) (without x (map (resolve s) rs))
    result_is r i = left_of x (map (resolve s) rs) (resolve s r) (in_map (resolve s) rs r i)

    by_left : (left : List ℕ) → without x (map (resolve s) rs) ≡ left → Settled s (put b ws op) x (settle_left g b x rs s left)
    by_left [] e = zero_case (λ r i. elim (result_is r i) [ inl q ↦ q | inr j ↦ absurd (rw e at j) ])
    by_left (y ∷ ys) e = by (every (eqb y) ys) refl
      where
        some_pred : g.preds b ≡ [] → ⊥
        some_pred q = none_left rs (len ∙ ap length q) e
          where
            none_left : (l : List ℕ) → length l ≡ 0 → without x (map (resolve s) l) ≡ y ∷ ys → ⊥
            none_left [] k u = subst (λ (l : List ℕ). In y l) (sym u) (inl refl)
            none_left (r ∷ l) k u = omega (arith, k)

        found : In y (map (resolve s) rs) × (y ≢ x)
        found = without_in x (map (resolve s) rs) y (rw e (inl refl))

        y_root : s.target y ≡ y
        y_root = let k = map_in (resolve s) rs y found.0 in ap s.target k.2 ∙ root_is s.target s.next k.0 h.aliased.tree ∙ sym k.2

        by : (c : Bool) → every (eqb y) ys ≡ c
            → Settled s (put b ws op) x (cond c (y, alias b x y s) (x, with_args s (feed_all g b (g.preds b) rs s.args)))
        by true q = one_case y y_root found.1 some_pred (λ r i. elim (result_is r i) [ inl u ↦ inl u | inr j ↦ inr (all_same y ys q (resolve s r) (rw e at j)) ])
        by false q = more_case some_pred

    pub settled : Settled s (put b ws op) x (settle g b x rs s)
    settled = by_left (without x (map (resolve s) rs)) refl
