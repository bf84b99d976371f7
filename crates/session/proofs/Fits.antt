-- What the two tests of lengths decide of the whole session: a refusal leaves what was lent, an accepted one puts what the session shows over the first
-- cells of each list.
-- Assumes nothing.
use Prim.Native.Nat.{ℕ, ◌≤◌}
use mathlib.Core.Path.{◌≡◌, refl, sym, ap, ◌∙◌, subst}
use mathlib.Core.Bool.{Bool, true, false, cond}
use mathlib.Core.List.{List, ◌++◌}
use native.Mathlib.Omega.{arith}
use lib.ListN.{length, take, drop, length-append, length-drop}
use lib.Seq.{length-take-le}
use Rattle.entity.specs.Limits.{limits, graph_need, form_need, work_need}
use Rattle.definition.specs.Base.{◌=?◌}
use Rattle.definition.specs.Session.{session}
use Rattle.definition.specs.Whole.{calls, needs, short, unfit, whole_answer}
use Rattle.layout.specs.Outcome.{Lent, SameLists, lengths, shown, past, followed_by}
use Rattle.layout.proofs.Outcome.{Fits, fits, by_tests}
use Rattle.reply.proofs.Answered.{tested}
use Rattle.turns.specs.Lists.{Exact}
use Rattle.session.specs.Ends.{Ended}

module _ (ks xs ys zs : List ℕ) (t : Lent) where
  abbrev too_short : Bool
  too_short = short (needs (length ks)) (lengths t)

  -- the answer, by the two tests
  answered : {u v : Bool} → unfit ks xs ys zs ≡ u → short (needs (length ks)) (lengths t) ≡ v → whole_answer ks xs ys zs (lengths t) ≡ by_tests u v
  answered {u} p q = ap (λ (z : Bool). by_tests z too_short) p ∙ ap (by_tests u) q

  -- what the lists hold after the answer r
  abbrev left : ℕ → Lent
  left r = cond (r =? 0) (followed_by (shown (session (calls ks xs ys zs))) (past (needs (length ks)) t)) t

  meets : {u : Lent} {r : ℕ} → whole_answer ks xs ys zs (lengths t) ≡ r → SameLists u (left r) → Ended ks xs ys zs t u r
  meets {u} e l = record { answer = sym e; leaves = subst (λ (n : ℕ). SameLists u (left n)) (sym e) l }

  untouched : SameLists t t
  untouched = record { codes = refl; numbers = refl; graph = refl; form = refl; work = refl }

  pub all_unfit : unfit ks xs ys zs ≡ true → Ended ks xs ys zs t t 2
  all_unfit p = meets (answered p refl) untouched

  pub some_short : unfit ks xs ys zs ≡ false → short (needs (length ks)) (lengths t) ≡ true → Ended ks xs ys zs t t 1
  some_short p q = meets (answered p q) untouched

  pub all_done : {u : Lent} → unfit ks xs ys zs ≡ false → short (needs (length ks)) (lengths t) ≡ false → SameLists u (shown (session (calls ks xs ys zs)))
      → Ended ks xs ys zs t (followed_by u (past (needs (length ks)) t)) 0
  all_done p q l = meets (answered p q) record {
    codes = ap (λ (r : List ℕ). r ++ drop (length ks) t.codes) l.codes;
    numbers = ap (λ (r : List ℕ). r ++ drop (length ks) t.numbers) l.numbers;
    graph = ap (λ (r : List ℕ). r ++ drop (graph_need limits) t.graph) l.graph;
    form = ap (λ (r : List ℕ). r ++ drop (form_need limits) t.form) l.form;
    work = ap (λ (r : List ℕ). r ++ drop (work_need limits) t.work) l.work;
  }

-- the first n cells are lent on, and come back
pub back : (n : ℕ) (l u : List ℕ) → n ≤ length l → length u ≡ length (take n l) → length (u ++ drop n l) ≡ length l
back n l u h e = length-append u (drop n l) ∙ omega (arith, e, length-take-le n l h, length-drop n l)

module _ {ks xs ys zs : List ℕ} {t : Lent} (h : Fits ks xs ys zs t) where
  pub exact : Exact (take (graph_need limits) t.graph) (take (form_need limits) t.form) (take (work_need limits) t.work)
  exact = record {
    graph_exact = length-take-le (graph_need limits) t.graph h.graph_fit;
    form_exact = length-take-le (form_need limits) t.form h.form_fit;
    work_exact = length-take-le (work_need limits) t.work h.work_fit;
  }

-- where both tests of the code say no, the tables that are lent on are just as long as the run asks
pub run_exact : (ks xs ys zs : List ℕ) (t : Lent) {u v : Bool} → u ≡ unfit ks xs ys zs → u ≡ false → v ≡ short (needs (length ks)) (lengths t) → v ≡ false
    → Exact (take (graph_need limits) t.graph) (take (form_need limits) t.form) (take (work_need limits) t.work)
run_exact ks xs ys zs t p p' q q' = exact (fits ks xs ys zs t (tested p p') (tested q q'))
