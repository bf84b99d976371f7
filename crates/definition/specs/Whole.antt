-- A whole session: the lengths of what is lent decide whether it is run at all; if it is, the calls are run in turn.
-- Assumes nothing.
use Rattle.std.specs.Prelude.{ℕ, ◌≡◌, refl, Bool, not, ◌&&◌, ◌||◌, List, [], ◌∷◌, length, if◌then◌else◌}
use Rattle.entity.specs.Limits.{limits, graph_need, form_need, work_need}
use Rattle.definition.specs.Base.{◌=?◌, ◌<?◌}
use Rattle.definition.specs.Session.{Call}

-- the calls, from four lists of equal length: kinds, xs, ys, zs
abbrev pub calls : List ℕ → List ℕ → List ℕ → List ℕ → List Call
calls [] xs ys zs = []
calls (k ∷ ks) [] ys zs = []
calls (k ∷ ks) (x ∷ xs) [] zs = []
calls (k ∷ ks) (x ∷ xs) (y ∷ ys) [] = []
calls (k ∷ ks) (x ∷ xs) (y ∷ ys) (z ∷ zs) = record { kind = k; x = x; y = y; z = z } ∷ calls ks xs ys zs

-- how long the lists are that a session changes: the answers' codes and numbers, and the cells of the graph, the form and the work stacks
pub record Lengths : Type 0 where
  pub codes : ℕ
  pub numbers : ℕ
  pub graph : ℕ
  pub form : ℕ
  pub work : ℕ

-- what n calls need: a cell a call for the answers, and every table its full limit
abbrev pub needs : ℕ → Lengths
needs n = record { codes = n; numbers = n; graph = graph_need limits; form = form_need limits; work = work_need limits }

-- some list is shorter than this
abbrev pub short : Lengths → Lengths → Bool
short m t = t.codes <? m.codes || t.numbers <? m.numbers || t.graph <? m.graph || t.form <? m.form || t.work <? m.work

-- the call lists differ in length, or exceed the limit
abbrev pub unfit : List ℕ → List ℕ → List ℕ → List ℕ → Bool
unfit ks xs ys zs =
    not (length xs =? length ks && length ys =? length ks && length zs =? length ks) || limits.calls <? length ks

-- what the session itself answers: 2 or 1 when it is refused whole, 0 when it is run
abbrev pub whole_answer : List ℕ → List ℕ → List ℕ → List ℕ → Lengths → ℕ
whole_answer ks xs ys zs t = if unfit ks xs ys zs then 2 else if short (needs (length ks)) t then 1 else 0

-- 2 comes before 1: one kind without its numbers, and lists with no cell for its answer
both_wrong : whole_answer (1 ∷ []) [] [] [] (needs 0) ≡ 2
both_wrong = refl
