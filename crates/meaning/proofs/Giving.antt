-- A caller's parameter and a caller's argument keep the invariant: the block has no builder's parameters yet, the branch is declared nowhere. Assumes nothing.
use Prim.Native.Nat.{ℕ, suc, ◌<◌}
use mathlib.Core.Path.{◌≡◌, refl, sym, ap, ◌∙◌}
use mathlib.Core.Logic.{⊎_map, ◌≢◌, ◌⊎◌, inl, inr}
use mathlib.Core.Bool.{false}
use mathlib.Core.List.{List, [], ◌∷◌, ◌++◌, append-nil}
use lib.ListN.{length, get_or, length-append, get_or-append}
use native.Mathlib.Omega.{arith}
use native.Mathlib.Nat.{le_trans}
use Rattle.entity.specs.Limits.{limits}
use Rattle.definition.specs.Base.{put, put₂}
use Rattle.definition.specs.Form.{Graph, Form, Info, caller, with_makes, with_owns, with_args}
use Rattle.definition.specs.Read.{resolve, type_of, make, set_params}
use Rattle.meaning.specs.Path.{In}
use Rattle.meaning.proofs.Maps.{same?, put_same, put_other, put_at, put₂_at, put₂_other, here?}
use Rattle.meaning.proofs.Facts.{Edge, same, kept}
use Rattle.meaning.proofs.Alias.{follow_more}
use Rattle.meaning.proofs.Lists.{nodup_snoc, in_cases, in_one, in_left, in_right, put_in, snds, getD_last}
use Rattle.meaning.proofs.Inv.{Grow, Inv, Work, Frame, frame, Callers, Owned, cut, pending, pending_par, kept_root, edge_grow, nought_grow}
use Rattle.meaning.proofs.Inv.{param_grow}
use Rattle.meaning.proofs.Inv.{aliased_more, Gave, gave_more}

-- 1. a caller's parameter of b, where ty is its type and m values were made by then
module _ (g : Graph) (E : Frame) (s : Form) (kp : ℕ → List ℕ) (op : Work) (h : Inv g E s kp op) (b ty m : ℕ) (unsealed : g.sealed b ≡ false)
    (idle : s.pending b ≡ []) (room : s.owns b < limits.own_params) where
  abbrev x : ℕ
  x = s.next

  abbrev new : Info
  new = record { sort = caller; type = ty; home = b }

  abbrev cp : ℕ → List ℕ
  cp = E.caller.params

  abbrev more : List ℕ
  more = cp b ++ x ∷ []

  abbrev now : Form
  now = with_owns (set_params b (s.params b ++ s.next ∷ []) (make caller ty b (with_makes s m))) (put b (suc (s.owns b)) s.owns)

  abbrev pub with_param : Callers
  with_param = record { params = put b (E.caller.params b ++ s.next ∷ []) E.caller.params; args = E.caller.args }

  now_res : (z : ℕ) → resolve now z ≡ resolve s z
  now_res z = follow_more s.target s.next (suc s.next) z h.aliased.tree (omega arith)

  pub own_grow : Grow s (with_owns (set_params b (s.params b ++ s.next ∷ []) (make caller ty b (with_makes s m))) (put b (suc (s.owns b)) s.owns))
  own_grow = record {
    own = λ w c. refl;
    entry = λ w c e q. q;
    res = λ y z q. now_res y ∙ q ∙ sym (now_res z);
    info = λ y l. put_other s.next new s.info y (omega arith);
    more = omega arith;
  }

  -- b has no builder's parameters
  none_built : kp b ++ snds (pending g s op b) ≡ []
  none_built = rw (h.listed.bare b unsealed, unsealed, idle) refl

  split_here : s.params b ++ x ∷ [] ≡ more ++ (kp b ++ snds (pending g s op b))
  split_here = ap (λ (l : List ℕ). l ++ x ∷ []) (h.listed.split b ∙ ap (λ (l : List ℕ). cp b ++ l) none_built ∙ append-nil (cp b))
      ∙ sym (ap (λ (l : List ℕ). more ++ l) none_built ∙ append-nil more)

  counted : length more ≡ suc (s.owns b)
  counted = omega (arith, length-append (cp b) (x ∷ []), h.owned.count b)

  new_info : now.info x ≡ new
  new_info = put_same s.next new s.info

  -- a caller's parameter is as it was
  old : (c y : ℕ) → (y < s.next) × ((s.info y).sort ≡ caller) × ((s.info y).home ≡ c) → (y < suc s.next) × ((now.info y).sort ≡ caller) ×
      ((now.info y).home ≡ c)
  old c y k = let i = put_other s.next new s.info y (omega (arith, k.0)) in (omega (arith, k.0), rw i k.1, rw i k.2)

  still : (c y : ℕ) → In y (cp c) → In y (put b more cp c)
  still c y i = elim (same? c b) [ inl q ↦ rw (put_at b more cp c q) (in_left y (cp b) (x ∷ []) (rw q at i)) | inr n ↦ rw (put_other b more cp c n) i ]

  owned_now : Owned now.info now.next now.owns (put b more cp)
  owned_now = record {
    count = λ c. elim (same? c b) [
      | inl q ↦ rw (put_at b more cp c q, put_at b (suc (s.owns b)) s.owns c q) counted
      | inr n ↦ rw (put_other b more cp c n, put_other b (suc (s.owns b)) s.owns c n) (h.owned.count c)
    ];
    few = λ c. elim (same? c b) [ inl q ↦ rw (put_at b more cp c q) (omega (arith, counted, room)) | inr n ↦ rw (put_other b more cp c n) (h.owned.few c) ];
    once = λ c. elim (same? c b) [
      | inl q ↦ rw (put_at b more cp c q) (nodup_snoc (cp b) x (h.owned.once b) (λ i. omega (arith, (h.owned.each b x i).0)))
      | inr n ↦ rw (put_other b more cp c n) (h.owned.once c)
    ];
    each = λ c y i. elim (put_in y b more cp c i) [
      | inl k ↦ elim (in_cases y (cp b) (x ∷ []) k.1) [
        | inl j ↦ old c y (rw k.0 (h.owned.each b y j))
        | inr j ↦ rw (in_one y x j, k.0) (omega arith, ap (λ (f : Info). f.sort) new_info, ap (λ (f : Info). f.home) new_info)
      ]
      | inr j ↦ old c y (h.owned.each c y j)
    ];
    all = λ y l e. elim (same? y s.next) [
      | inl q ↦ rw (q, new_info, put_same b more cp) (in_right x (cp b) (x ∷ []) (inl refl))
      | inr n ↦ let i = put_other s.next new s.info y n in rw i (still (s.info y).home y (h.owned.all y (omega arith) (rw i at e)))
    ];
  }

  more_gave : Gave now.info now.next g.dests cp E.caller.args
  more_gave = gave_more h.owned h.passed.short h.gave new

  more_below : (p i j : ℕ) → j < length (E.caller.args p i) → get_or (E.caller.args p i) j 0 < now.next
  more_below = more_gave.below

  -- in front of the new one all is as it was
  typed_now : (p i j : ℕ) → j < length (E.caller.args p i) → (get_or (g.dests p) i 0 ≡ b) ⊎ (get_or (g.dests p) i 0 ≢ b)
      → (now.info (get_or (E.caller.args p i) j 0)).type ≡ (now.info (get_or (put b more cp (get_or (g.dests p) i 0)) j 0)).type
  typed_now p i j l (inr n) = rw (put_other b more cp (get_or (g.dests p) i 0) n) (more_gave.typed p i j l)
  typed_now p i j l (inl q) =
      let low : j < length (cp b) = le_trans l (rw q at (h.passed.short p i)) in
      more_gave.typed p i j l ∙ ap (λ (y : ℕ). (now.info y).type)
      (ap (λ (c : ℕ). get_or (cp c) j 0) q ∙ sym (get_or-append (cp b) (x ∷ []) 0 j low)
      ∙ ap (λ (r : List ℕ). get_or r j 0) (sym (put_at b more cp (get_or (g.dests p) i 0) q)))

  pub own_inv : Inv g (frame E.sup with_param) (with_owns (set_params b (s.params b ++ s.next ∷ []) (make caller ty b (with_makes s m)))
      (put b (suc (s.owns b)) s.owns)) kp op
  own_inv = record {
    known = h.known;
    edge = λ ok w c e q. ⊎_map (λ i. i) (edge_grow g (cut E) s now kp kp own_grow w c e (λ i. (kept_root g E s kp op h c e i, i, λ _ _ _ _ _ _ a. a)))
        (h.edge ok w c e q);
    first = λ ok w c e q empty. ⊎_map (λ i. i) (nought_grow s now (type_of g w) c e own_grow (now_res e)) (h.first ok w c e q empty);
    pend = λ w c y i. let q = h.pend w c y i in
        (q.0, ap (λ (j : Info). j.type) (own_grow.info y (h.listed.pars c y (pending_par g E s kp op h w c y i)).below) ∙ q.1);
    listed = record {
      split = λ c. elim (same? c b) [
        | inl q ↦ rw (q, put_same b (s.params b ++ x ∷ []) s.params, put_same b more cp) split_here
        | inr n ↦ rw (put_other b (s.params b ++ x ∷ []) s.params c n, put_other b more cp c n) (h.listed.split c)
      ];
      pars = λ c y i. let r = h.listed.pars c y i in param_grow s now c y own_grow r.root r;
      nodup = h.listed.nodup;
      bare = h.listed.bare;
    };
    owned = owned_now;
    passed = record {
      fed = h.passed.fed;
      unfed = h.passed.unfed;
      there = h.passed.there;
      short = λ p i. let d = get_or (g.dests p) i 0 in elim (same? d b) [
        | inl q ↦ rw (put_at b more cp d q) (omega (arith, h.passed.short p i, length-append (cp b) (x ∷ []), ap (λ (k : ℕ). length (cp k)) q))
        | inr n ↦ rw (put_other b more cp d n) (h.passed.short p i)
      ];
    };
    gave = record { below = more_below; typed = λ p i j l. typed_now p i j l (same? (get_or (g.dests p) i 0) b) };
    aliased = aliased_more h.aliased new;
  }

-- 2. the argument x at the destination of p's branch at place i
module _ (g : Graph) (E : Frame) (s : Form) (kp : ℕ → List ℕ) (op : Work) (h : Inv g E s kp op) (p x i : ℕ) (lt : i < length (g.dests p))
    (nowhere : (b : ℕ) → In p (g.preds b) → ⊥) (room : length (s.args p i) < length (E.caller.params (get_or (g.dests p) i 0)))
    (low : x < s.next) (type : (s.info x).type ≡ (s.info (get_or (E.caller.params (get_or (g.dests p) i 0)) (length (s.args p i)) 0)).type) where
  abbrev ga : ℕ → ℕ → List ℕ
  ga = E.caller.args

  abbrev given_now : ℕ → ℕ → List ℕ
  given_now = put₂ p i (ga p i ++ x ∷ []) ga

  abbrev args_now : ℕ → ℕ → List ℕ
  args_now = put₂ p i (s.args p i ++ x ∷ []) s.args

  abbrev pub with_arg : Callers
  with_arg = record { params = E.caller.params; args = put₂ p i (E.caller.args p i ++ x ∷ []) E.caller.args }

  -- so far there are no others
  was : s.args p i ≡ ga p i
  was = h.passed.unfed p i (λ _ _ j. nowhere (get_or (g.dests p) i 0) j)

  -- other branches keep theirs
  apart : (q c j : ℕ) → In q (g.preds c) → (given_now q j ≡ ga q j) × (args_now q j ≡ s.args q j)
  apart q c j iq = (
    put₂_other p i (ga p i ++ x ∷ []) ga q j (λ e _. nowhere c (rw e at iq)),
    put₂_other p i (s.args p i ++ x ∷ []) s.args q j
        (λ e _. nowhere c (rw e at iq)),
  )

  regiven : (w c e : ℕ) → Edge g (cut E) s kp w c e
      → Edge g (cut (frame E.sup with_arg)) (with_args s (put₂ p i (s.args p i ++ x ∷ []) s.args)) kp w c e
  regiven w c e (same z f) = same z f
  regiven w c e (kept z r k f) = kept z r k (λ q iq. let o = f q iq in
      (o.0, o.1, λ j l d. let a = o.2 j l d in (a.0, rw ((apart q c j iq).0, (apart q c j iq).1) a.1, a.2)))

  -- the arguments at p and i: those before, and x behind them
  each_given : (P : ℕ → ℕ → Type 0) → ((j : ℕ) → j < length (ga p i) → P (get_or (ga p i) j 0) j) → P x (length (ga p i))
      → (j : ℕ) → j < length (ga p i ++ x ∷ []) → P (get_or (ga p i ++ x ∷ []) j 0) j
  each_given P before last j l = elim (same? j (length (ga p i))) [
    | inl e ↦ rw (e, getD_last (ga p i) x) last
    | inr n ↦ let lj : j < length (ga p i) = omega (arith, l, length-append (ga p i) (x ∷ [])) in
        rw (get_or-append (ga p i) (x ∷ []) 0 j lj) (before j lj)
  ]

  gave_now : Gave s.info s.next g.dests E.caller.params (put₂ p i (ga p i ++ x ∷ []) ga)
  gave_now = record {
    below = λ q j k l. elim (here? q p j i) [
      | inl e ↦ rw (put₂_at p i (ga p i ++ x ∷ []) ga q j e.0 e.1)
          (each_given (λ a _. a < s.next) (h.gave.below p i) low k (rw (put₂_at p i (ga p i ++ x ∷ []) ga q j e.0 e.1) at l))
      | inr n ↦ rw (put₂_other p i (ga p i ++ x ∷ []) ga q j n) (h.gave.below q j k (rw (put₂_other p i (ga p i ++ x ∷ []) ga q j n) at l))
    ];
    typed = λ q j k l. elim (here? q p j i) [
      | inl e ↦ rw (put₂_at p i (ga p i ++ x ∷ []) ga q j e.0 e.1, e.0, e.1)
          (each_given (λ a n. (s.info a).type ≡ (s.info (get_or (E.caller.params (get_or (g.dests p) i 0)) n 0)).type) (h.gave.typed p i)
          (type ∙ ap (λ (n : ℕ). (s.info (get_or (E.caller.params (get_or (g.dests p) i 0)) n 0)).type) (ap length was))
          k (rw (put₂_at p i (ga p i ++ x ∷ []) ga q j e.0 e.1) at l))
      | inr n ↦ rw (put₂_other p i (ga p i ++ x ∷ []) ga q j n) (h.gave.typed q j k (rw (put₂_other p i (ga p i ++ x ∷ []) ga q j n) at l))
    ];
  }

  pub give_inv : Inv g (frame E.sup with_arg) (with_args s (put₂ p i (s.args p i ++ x ∷ []) s.args)) kp op
  give_inv = record {
    known = h.known;
    edge = λ ok w c e q. ⊎_map (λ j. j) (regiven w c e) (h.edge ok w c e q);
    first = h.first;
    pend = h.pend;
    listed = h.listed;
    owned = h.owned;
    passed = record {
      fed = λ q j l z iq. rw ((apart q (get_or (g.dests q) j 0) j iq).0, (apart q (get_or (g.dests q) j 0) j iq).1) (h.passed.fed q j l z iq);
      unfed = λ q j n. elim (here? q p j i) [
        | inl e ↦ put₂_at p i (s.args p i ++ x ∷ []) s.args q j e.0 e.1 ∙ ap (λ (l : List ℕ). l ++ x ∷ []) was
            ∙ sym (put₂_at p i (ga p i ++ x ∷ []) ga q j e.0 e.1)
        | inr o ↦ put₂_other p i (s.args p i ++ x ∷ []) s.args q j o ∙ h.passed.unfed q j n ∙ sym (put₂_other p i (ga p i ++ x ∷ []) ga q j o)
      ];
      there = λ q j l. elim (here? q p j i) [
        | inl e ↦ absurd (omega (arith, lt, l, e.1, ap (λ (k : ℕ). length (g.dests k)) e.0))
        | inr o ↦ put₂_other p i (ga p i ++ x ∷ []) ga q j o ∙ h.passed.there q j l
      ];
      short = λ q j. elim (here? q p j i) [
        | inl e ↦ rw (e.0, e.1, put₂_at p i (ga p i ++ x ∷ []) ga p i refl refl) (omega (arith, length-append (ga p i) (x ∷ []), ap length was, room))
        | inr o ↦ rw (put₂_other p i (ga p i ++ x ∷ []) ga q j o) (h.passed.short q j)
      ];
    };
    gave = gave_now;
    aliased = h.aliased;
  }
