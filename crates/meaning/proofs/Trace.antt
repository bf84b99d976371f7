-- A path that is computed is a path, so where uses are faithful they find on it what their variables received.
-- Assumes nothing.
use Prim.Native.Nat.{ℕ}
use mathlib.Core.Path.{◌≡◌, refl, sym, ap, ◌∙◌}
use mathlib.Core.Logic.{inl, inr}
use mathlib.Core.Bool.{true}
use mathlib.Core.List.{List, [], ◌∷◌, ◌++◌}
use lib.Dec.{ltb, ltb→lt}
use lib.ListN.{length}
use Rattle.definition.specs.Session.{State}
use Rattle.meaning.specs.Path.{In, Act, makes, gives, uses, acts, Mem, res, do_act, do_acts, At, start, go, Faithful}
use Rattle.meaning.specs.Trace.{Here, begin, on, trace, there?, found, finds}
use Rattle.meaning.proofs.Maps.{true_T}
use Rattle.meaning.proofs.Decide.{itself, both}

module _ (W : Type 0) (null : ℕ → W) (fresh : ℕ → ℕ → W) (any : ℕ → W) (t : State) where
  abbrev Stands : Here W null fresh any t → Type 0
  Stands h = At W null t fresh any h.before h.now h.held

  traced : (is : List ℕ) (h : Here W null fresh any t) → Stands h → there? W null fresh any t is h ≡ true → Stands (trace W null fresh any t is h)
  traced [] h a e = a
  traced (i ∷ is) h a e =
      let n = length (t.graph.dests h.now) in
      let next = on W null fresh any t i h in
      let k = (both (itself (ltb i n)) (itself (there? W null fresh any t is next))).sound e in
      traced is next (go i a (ltb→lt i n (true_T (ltb i n) k.0))) k.1

  -- the use that found a pair
  record Use (new : ℕ → W) (r : List Act) (m : Mem W null t) (q : W × W) : Type 0 where
    before : List Act
    after : List Act
    variable : ℕ
    answer : ℕ
    stands : r ≡ before ++ uses variable answer ∷ after
    holds : (do_acts W null t new before m).val (res W null t answer) ≡ q.0
    received : (do_acts W null t new before m).var variable ≡ q.1

  use_of : (new : ℕ → W) (r : List Act) (m : Mem W null t) (q : W × W) → In q (found W null fresh any t new r m) → Use new r m q
  use_of new [] m q i = absurd i
  use_of new (a ∷ r) m q i = at a i (λ m' j. use_of new r m' q j)
    where
      later : (b : Act) → Use new r (do_act W null t new b m) q → Use new (b ∷ r) m q
      later b u = record {
        before = b ∷ u.before;
        after = u.after;
        variable = u.variable;
        answer = u.answer;
        stands = ap {B = List Act} (λ k. b ∷ k) u.stands;
        holds = u.holds;
        received = u.received;
      }

      at : (b : Act) → In q (found W null fresh any t new (b ∷ r) m) → ((m' : Mem W null t) → In q (found W null fresh any t new r m') → Use new r m' q) → Use new (b ∷ r) m q
      at (makes x) j below = later (makes x) (below (do_act W null t new (makes x) m) j)
      at (gives v x) j below = later (gives v x) (below (do_act W null t new (gives v x) m) j)
      at (uses v x) (inl e) below = record {
        before = [];
        after = r;
        variable = v;
        answer = x;
        stands = refl;
        holds = ap (λ (p : W × W). p.0) (sym e);
        received = ap (λ (p : W × W). p.1) (sym e);
      }
      at (uses v x) (inr j) below = later (uses v x) (below m j)

  pub faithful_finds : Faithful W null t → (is : List ℕ) → there? W null fresh any t is (begin W null fresh any t) ≡ true → (q : W × W) → In q (finds W null fresh any t is) → q.0 ≡ q.1
  faithful_finds right is e q i =
      let h = trace W null fresh any t is (begin W null fresh any t) in
      let u = use_of (fresh (length h.before)) (acts h.now t.done) h.held q i in
      sym u.holds ∙ right fresh any h.before h.now h.held (traced is (begin W null fresh any t) start e) u.before u.after u.variable u.answer u.stands ∙ u.received
