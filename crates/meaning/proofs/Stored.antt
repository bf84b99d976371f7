-- Every number stored in a table is in range, after every list of calls and at every moment of a run, as ranges are kept; and a walk passes no block twice.
-- Assumes nothing.
use Prim.Native.Nat.{ℕ, zero, suc, ◌<◌, ◌≤◌}
use mathlib.Core.Path.{◌≡◌, refl, sym, ap, ◌∙◌, subst}
use mathlib.Core.Logic.{◌⊎◌, inl, inr}
use mathlib.Core.Bool.{Bool, true, false, ◌||◌}
use mathlib.Core.Option.{Option, none, some}
use mathlib.Core.List.{List, [], ◌∷◌, ◌++◌}
use lib.Dec.{eqb, ltb}
use lib.ListN.{length, get_or}
use native.Mathlib.Omega.{arith}
use Rattle.definition.specs.Base.{has}
use Rattle.definition.specs.Form.{Graph, Form, def}
use Rattle.definition.specs.Read.{Walk, on_to, past, walk, single}
use Rattle.definition.specs.Session.{Call, session}
use Rattle.meaning.specs.Machine.{Conf}
use Rattle.meaning.specs.Path.{In}
use Rattle.meaning.specs.Stored.{Nodup, Stored}
use Rattle.meaning.proofs.Maps.{false_true, ltb_no, ltb_yes, bool?}
use Rattle.meaning.proofs.Lists.{has_in, getD_in, in_cases, snds}
use Rattle.meaning.proofs.Reading.{Sound, Trail, walked, only_is}
use Rattle.meaning.proofs.Sealing.{idle}
use Rattle.meaning.proofs.Ranges.{Bounds}
use Rattle.meaning.proofs.Sums.{pigeon}
use Rattle.meaning.proofs.Mid.{at_work, finishes, Rest}
use Rattle.meaning.proofs.Sure.{sure}
use Rattle.meaning.proofs.Rooms.{Moment, resting}
use Rattle.meaning.proofs.Inv.{Work, pending}

pub stored_of : (g : Graph) → Sound g → Bounds g → (op : Work) (k : ℕ) (s : Form) → Rest g op k s → Stored g s
stored_of g G B op k s r = let h = r.inv in let R = r.ranged in record {
  entry = λ w b e q. let k = h.known w b e q in (k.0, k.1, R.recorded.entries w b e q);
  own = R.recorded.owns;
  params = λ b x i. params b x (in_cases x (r.caller.params b) (r.kp b ++ snds (pending g s op b)) (rw (h.listed.split b) at i));
  waits = waits;
  args = args;
  preds = λ b p i. (G.inside b p i, G.range b p i, G.names b p i);
  dests = λ p b i. (B.branches p (B.from p b i), B.aims p b i);
  branches = B.branches;
  sealed = B.shut;
  settled = R.still;
  types = B.typed;
  marks = B.marked;
  targets = R.valued.closed;
  unused = h.aliased.fresh;
  unrecorded = R.unrecorded;
  info = λ x l. (R.valued.homes x l, R.valued.types x l);
  zeros = R.logs.noted;
  placed = R.logs.within;
  once = R.logs.once;
}
  where
    params : (b x : ℕ) → In x (r.caller.params b) ⊎ In x (r.kp b ++ snds (pending g s op b)) → (b < g.blocks) × (x < s.next)
    params b x (inl i) = let k = r.inv.owned.each b x i in (subst (λ (j : ℕ). j < g.blocks) k.2 (r.ranged.valued.homes x k.0), k.0)
    params b x (inr i) = let k = r.inv.listed.pars b x i in (subst (λ (j : ℕ). j < g.blocks) k.home (r.ranged.valued.homes x k.below), k.below)

    waits : (b : ℕ) (w : ℕ × ℕ) → In w (s.pending b) → (w.0 < length g.types) × (b < g.blocks) × (w.1 < s.next)
    waits b w i = elim (bool? (g.sealed b)) [
      | inl e ↦ absurd (rw (r.ranged.still b e) at i)
      | inr e ↦ let q = (r.inv.pend w.0 b w.1 (rw e i)).0 in
          let k = r.inv.known w.0 b w.1 q in
          (k.0, k.1, r.ranged.recorded.entries w.0 b w.1 q)
    ]

    args : (p i a : ℕ) → In a (s.args p i) → (p < g.blocks) × (i < length (g.dests p)) × (a < s.next)
    args p i a j = elim (bool? (ltb i (length (g.dests p)))) [
      | inl e ↦ let lt = ltb_yes i (length (g.dests p)) e in
          (B.branches p (B.from p (get_or (g.dests p) i 0) (getD_in (g.dests p) i lt)), lt, r.ranged.recorded.passed p i a j)
      | inr e ↦ let k = ltb_no i (length (g.dests p)) e in absurd
          (rw (r.inv.passed.unfed p i (λ l _ _. omega (arith, l, k)) ∙ r.inv.passed.there p i k) at j)
    ]

pub stored : (cs : List Call) → Stored (session cs).graph (session cs).form
stored cs = let h = sure cs in stored_of (session cs).graph h.whole.sound h.safe.bounds idle 0 (session cs).form (resting (session cs) h)

pub stored_now : (g : Graph) → Sound g → Bounds g → (v : ℕ) (later : Work) (k : ℕ) (c : Conf) → Moment g v later k c
    → Stored g c.form
stored_now g G B v later k c m = stored_of g G B (at_work v c.tasks later) (finishes c.tasks k) c.form m.now.0.rest

-- A walk passes no block twice, so at most as many as there are.
module _ (g : Graph) (s : Form) (v : ℕ) where
  or_right : (a b : Bool) → a || b ≡ false → b ≡ false
  or_right true b e = absurd (false_true e refl)
  or_right false b e = e

  pub record Fresh (seen : List ℕ) (w : Walk) : Type 0 where
    pub unseen : (c : ℕ) → In c w.passed → has c seen ≡ false
    pub nodup : Nodup w.passed

  pub walk_fresh : (n : ℕ) (seen : List ℕ) (b : ℕ) → Fresh seen (walk n g s v seen b)
  walk_fresh zero seen b = record { unseen = λ c i. absurd i; nodup = tt }
  walk_fresh (suc n) seen b = at (has b seen) refl (single g b) (λ p. walk_fresh n (b ∷ seen) p)
    where
      at : (z : Bool) → has b seen ≡ z → (q : Option ℕ) → ((p : ℕ) → Fresh (b ∷ seen) (walk n g s v (b ∷ seen) p))
          → Fresh seen (past (walk n g s v (b ∷ seen)) s v b z q)
      at true e q below = record { unseen = λ c i. absurd i; nodup = tt }
      at false e none below = record { unseen = λ c i. absurd i; nodup = tt }
      at false e (some p) below = to (def s v p)
        where
          to : (d : Option ℕ) → Fresh seen (on_to (walk n g s v (b ∷ seen)) b p d)
          to (some x) = record { unseen = only; nodup = ((λ i. i), tt) }
            where
              only : (c : ℕ) → In c (b ∷ []) → has c seen ≡ false
              only c (inl q) = ap (λ (j : ℕ). has j seen) q ∙ e
              only c (inr i) = absurd i
          to none = let w = below p in record { unseen = λ c i. all w c i; nodup = (λ i. false_true (w.unseen b i) (has_in b (b ∷ seen) (inl refl)), w.nodup) }
            where
              all : Fresh (b ∷ seen) (walk n g s v (b ∷ seen) p) → (c : ℕ) → In c (b ∷ (walk n g s v (b ∷ seen) p).passed) → has c seen ≡ false
              all w c (inl q) = ap (λ (j : ℕ). has j seen) q ∙ e
              all w c (inr i) = or_right (eqb c b) (has c seen) (w.unseen c i)

module _ (g : Graph) (G : Sound g) (v : ℕ) (s : Form) where
  -- the blocks passed are there, without a definition of v, and sealed
  trail_low : (l : List ℕ) (b e : ℕ) → b < g.blocks → Trail g v s b l e → (c : ℕ) → In c l → (c < g.blocks) × (def s v c ≡ none)
  trail_low (d ∷ l) b e lb t c (inl q) = (subst (λ (j : ℕ). j < g.blocks) (t.0 ∙ sym q) lb, ap (def s v) q ∙ t.1)
  trail_low [] b e lb t c x3 = elim x3 [ ]
  trail_low (d ∷ l) b e lb t c (inr i) = trail_low l t.2.0 e (G.range d t.2.0 (subst (λ (k : List ℕ). In t.2.0 k) (sym (only_is (g.sealed d) (g.preds d) t.2.0 t.2.1).1) (inl refl))) t.2.2 c i

  pub walk_room : (b : ℕ) → b < g.blocks → def s v b ≡ none → (n : ℕ)
      → (length (walk n g s v [] b).passed ≤ g.blocks) × ((c : ℕ) → In c (walk n g s v [] b).passed → (c < g.blocks) × (def s v c ≡ none))
      × ((walk n g s v [] b).end < g.blocks)
  walk_room b lb e n =
      let w = walk n g s v [] b in
      let y = walked g G v n s [] b lb e in
      let low = trail_low w.passed b w.end lb y.trail in
      (pigeon some g.blocks w.passed (walk_fresh g s v n [] b).nodup (λ c i. (c, (low c i).0, refl)), low, y.low)
