-- The invariant holds as the graph changes and as a variable is written: edges speak of sealed blocks, whose predecessors and their destinations stay.
-- Assumes nothing.
use Prim.Native.Nat.{ℕ, ◌<◌, ◌≤◌}
use mathlib.Core.Path.{◌≡◌, sym, ap, ◌∙◌, subst}
use mathlib.Core.Logic.{⊎_map, ◌≢◌, ◌⊎◌, inl, inr}
use mathlib.Core.Bool.{Bool, true, false}
use mathlib.Core.Option.{some}
use mathlib.Core.List.{List, [], ◌∷◌, ◌++◌}
use lib.Dec.{ltb}
use lib.ListN.{length, get_or, length-append, get_or-append}
use native.Mathlib.Omega.{arith}
use native.Mathlib.Nat.{le_trans}
use Rattle.definition.specs.Form.{graph, with_dests, with_preds, with_declared, Graph, Form, def}
use Rattle.definition.specs.Base.{put}
use Rattle.definition.specs.Read.{write, record_binding}
use Rattle.meaning.specs.Path.{In}
use Rattle.meaning.proofs.Maps.{same?, put_at, put_other, put₂_other, false_true, bool?, ltb_yes, ltb_no}
use Rattle.meaning.proofs.Facts.{Edge, same, kept}
use Rattle.meaning.proofs.Inv.{Inv, Work, Frame, cut}

module _ (g : Graph) (E : Frame) (s : Form) (kp : ℕ → List ℕ) (op : Work) (h : Inv g E s kp op) where
  -- 1. more blocks and variables, other marks of branches and variables, another call
  module _ (c n : ℕ) (ty : List ℕ) (br mk : ℕ → Bool) (more : g.blocks ≤ n)
      (typed : (w : ℕ) → w < length g.types → (w < length ty) × (get_or ty w 0 ≡ get_or g.types w 0)) where
    pub wider_inv : Inv (graph c n ty br g.dests g.preds g.sealed g.declared mk) E s kp op
    wider_inv = record {
      known = λ w b e q. let k = h.known w b e q in ((typed w k.0).0, le_trans k.1 more);
      edge = h.edge;
      first = λ ok w b e q empty. rw (typed w (h.known w b e q).0).1 (h.first ok w b e q empty);
      pend = λ w b x i. let k = h.pend w b x i in (k.0, k.1 ∙ sym (typed w (h.known w b x k.0).0).1);
      listed = h.listed;
      owned = h.owned;
      passed = h.passed;
      gave = h.gave;
      aliased = h.aliased;
    }

  -- 2. one more destination of a branch that is declared nowhere
  module _ (p d : ℕ) (nowhere : (b : ℕ) → In p (g.preds b) → ⊥) where
    abbrev ds : List ℕ
    ds = g.dests p ++ d ∷ []

    others : (q b : ℕ) → In q (g.preds b) → put p ds g.dests q ≡ g.dests q
    others q b i = put_other p ds g.dests q (λ e. nowhere b (rw e at i))

    regraph : (w b e : ℕ) → Edge g (cut E) s kp w b e → Edge (with_dests g (put p ds g.dests)) (cut E) s kp w b e
    regraph w b e (same z f) = same z f
    regraph w b e (kept z r x f) = kept z r x (λ q iq. let o = f q iq in (o.0, o.1, λ i lt t. o.2 i (rw (others q b iq) at lt) (rw (others q b iq) at t)))

    FedAt : ℕ → ℕ → List ℕ → Type 0
    FedAt q i l = i < length l → g.sealed (get_or l i 0) ≡ true → In q (g.preds (get_or l i 0))
        → (r : List ℕ) × (s.args q i ≡ E.caller.args q i ++ r) × (length r ≡ length (kp (get_or l i 0)))

    UnfedAt : ℕ → ℕ → List ℕ → Type 0
    UnfedAt q i l = (i < length l → g.sealed (get_or l i 0) ≡ true → In q (g.preds (get_or l i 0)) → ⊥) → s.args q i ≡ E.caller.args q i

    on_there : (q i : ℕ) → length (put p ds g.dests q) ≤ i → (q ≡ p) ⊎ (q ≢ p) → E.caller.args q i ≡ []
    on_there q i l (inl e) = h.passed.there q i (rw e (le_trans (omega (arith, length-append (g.dests p) (d ∷ []))) (rw (put_at p ds g.dests q e) at l)))
    on_there q i l (inr n) = h.passed.there q i (rw (put_other p ds g.dests q n) at l)

    on_short : (q i : ℕ) → (q ≡ p) ⊎ (q ≢ p) → length (E.caller.args q i) ≤ length (E.caller.params (get_or (put p ds g.dests q) i 0))
    on_short q i (inr n) = rw (put_other p ds g.dests q n) (h.passed.short q i)
    on_short q i (inl e) = rw (put_at p ds g.dests q e) (by (bool? (ltb i (length (g.dests p)))))
      where
        by : (ltb i (length (g.dests p)) ≡ true) ⊎ (ltb i (length (g.dests p)) ≡ false)
            → length (E.caller.args q i) ≤ length (E.caller.params (get_or (g.dests p ++ d ∷ []) i 0))
        by (inl y) = rw (get_or-append (g.dests p) (d ∷ []) 0 i (ltb_yes i (length (g.dests p)) y)) (rw e (rw e at (h.passed.short q i)))
        by (inr y) = rw (h.passed.there q i (rw e (ltb_no i (length (g.dests p)) y))) (omega arith)

    on_typed : (q i k : ℕ) → k < length (E.caller.args q i) → (q ≡ p) ⊎ (q ≢ p)
        → (s.info (get_or (E.caller.args q i) k 0)).type ≡ (s.info (get_or (E.caller.params (get_or (put p ds g.dests q) i 0)) k 0)).type
    on_typed q i k l (inr n) = rw (put_other p ds g.dests q n) (h.gave.typed q i k l)
    on_typed q i k l (inl e) = h.gave.typed q i k l ∙ ap (λ (c : ℕ). (s.info (get_or (E.caller.params c) k 0)).type) (sym there)
      where
        low : i < length (g.dests q)
        low = elim (bool? (ltb i (length (g.dests q)))) [
          | inl y ↦ ltb_yes i (length (g.dests q)) y
          | inr y ↦ absurd (omega (arith, l, ap length (h.passed.there q i (ltb_no i (length (g.dests q)) y))))
        ]

        there : get_or (put p ds g.dests q) i 0 ≡ get_or (g.dests q) i 0
        there = ap (λ (r : List ℕ). get_or r i 0) (put_at p ds g.dests q e) ∙ get_or-append (g.dests p) (d ∷ []) 0 i (rw e at low)
            ∙ ap (λ (r : ℕ). get_or (g.dests r) i 0) (sym e)

    pub aimed_inv : Inv (with_dests g (put p ds g.dests)) E s kp op
    unfolding FedAt UnfedAt
    aimed_inv = record {
      known = h.known;
      edge = λ ok w b e q. ⊎_map (λ i. i) (regraph w b e) (h.edge ok w b e q);
      first = h.first;
      pend = h.pend;
      listed = h.listed;
      owned = h.owned;
      passed = record {
        fed = λ q i lt z ip. subst (λ (l : List ℕ). FedAt q i l) (sym (others q (get_or (put p ds g.dests q) i 0) ip)) (h.passed.fed q i) lt z ip;
        unfed = λ q i n. elim (same? q p) [
          | inl e ↦ h.passed.unfed q i (λ lt z iq. nowhere (get_or (g.dests p) i 0) (rw e at iq))
          | inr m ↦ subst (λ (l : List ℕ). UnfedAt q i l) (sym (put_other p ds g.dests q m)) (h.passed.unfed q i) n
        ];
        there = λ q i l. on_there q i l (same? q p);
        short = λ q i. on_short q i (same? q p);
      };
      gave = record { below = h.gave.below; typed = λ q i k l. on_typed q i k l (same? q p) };
      aliased = h.aliased;
    }

  -- 3. other predecessors of a block that is not sealed, and other marks of what was ever declared
  module _ (b : ℕ) (ps : List ℕ) (dc : ℕ → Bool) (unsealed : g.sealed b ≡ false) where
    apart : (c : ℕ) → g.sealed c ≡ true → c ≢ b
    apart c z e = false_true unsealed (rw e at z)

    still : (c : ℕ) → g.sealed c ≡ true → put b ps g.preds c ≡ g.preds c
    still c z = put_other b ps g.preds c (apart c z)

    rejoin : (w c e : ℕ) → Edge g (cut E) s kp w c e → Edge (with_declared (with_preds g (put b ps g.preds)) dc) (cut E) s kp w c e
    rejoin w c e (same z f) = same z (λ p ip. f p (rw (still c z) at ip))
    rejoin w c e (kept z r x f) = kept z r x (λ p ip. f p (rw (still c z) at ip))

    edge_sealed : (w c e : ℕ) → Edge g (cut E) s kp w c e → g.sealed c ≡ true
    edge_sealed w c e (same z f) = z
    edge_sealed w c e (kept z r x f) = z

    pub joined_inv : Inv (with_declared (with_preds g (put b ps g.preds)) dc) E s kp op
    joined_inv = record {
      known = h.known;
      edge = λ ok w c e q. ⊎_map (λ i. i) (rejoin w c e) (h.edge ok w c e q);
      first = λ ok w c e q empty. elim (h.edge ok w c e q) [
        | inl i ↦ inl i
        | inr k ↦ h.first ok w c e q (rw (still c (edge_sealed w c e k)) at empty)
      ];
      pend = h.pend;
      listed = h.listed;
      owned = h.owned;
      passed = record {
        fed = λ p i lt z ip. h.passed.fed p i lt z (rw (still (get_or (g.dests p) i 0) z) at ip);
        unfed = λ p i n. h.passed.unfed p i (λ lt z ip. n lt z (rw (still (get_or (g.dests p) i 0) z) ip));
        there = h.passed.there;
        short = h.passed.short;
      };
      gave = h.gave;
      aliased = h.aliased;
    }

  -- 4. writing in a block that is declared nowhere
  module _ (v b x : ℕ) (nowhere : (c : ℕ) → In b (g.preds c) → ⊥) where
    same_def : (w p c o : ℕ) → In p (g.preds c) → def s w p ≡ some o → def (record_binding g v x (write v b x s)) w p ≡ some o
    same_def w p c o i e = rw (put₂_other v b (some x) s.own w p (λ _ q. nowhere c (rw q at i))) e

    rewrite : (w c e : ℕ) → Edge g (cut E) s kp w c e → Edge g (cut E) (record_binding g v x (write v b x s)) kp w c e
    rewrite w c e (same z f) = same z (λ p ip. let o = f p ip in (o.0, same_def w p c o.0 ip o.1, o.2))
    rewrite w c e (kept z r y f) = kept z r y (λ p ip. let o = f p ip in (o.0, same_def w p c o.0 ip o.1, o.2))

    pub write_inv : Inv g E (record_binding g v x (write v b x s)) kp op
    write_inv = record {
      known = h.known;
      edge = λ ok w c e q. ⊎_map (λ i. i) (rewrite w c e) (h.edge ok w c e q);
      first = h.first;
      pend = h.pend;
      listed = h.listed;
      owned = h.owned;
      passed = h.passed;
      gave = h.gave;
      aliased = h.aliased;
    }
