-- What a session answers, and what it does to all that it is lent.
-- Assumes nothing.
use Rattle.std.specs.Prelude.{ℕ, ◌≡◌, List, ◌++◌, map, length, take, drop, if◌then◌else◌}
use Rattle.definition.specs.Base.{◌=?◌}
use Rattle.definition.specs.Session.{State, session}
use Rattle.definition.specs.Whole.{calls, Lengths, needs, whole_answer}
use Rattle.layout.specs.Layout.{render_graph, render_form, render_work}

-- the lists that a session changes
pub record Lent : Type 0 where
  pub codes : List ℕ
  pub numbers : List ℕ
  pub graph : List ℕ
  pub form : List ℕ
  pub work : List ℕ

abbrev pub lent : List ℕ → List ℕ → List ℕ → List ℕ → List ℕ → Lent
lent codes numbers graph form work = record { codes = codes; numbers = numbers; graph = graph; form = form; work = work }

-- t and u are the same, list by list
pub record SameLists (t u : Lent) : Type 0 where
  pub codes : t.codes ≡ u.codes
  pub numbers : t.numbers ≡ u.numbers
  pub graph : t.graph ≡ u.graph
  pub form : t.form ≡ u.form
  pub work : t.work ≡ u.work

abbrev pub lengths : Lent → Lengths
lengths t = record { codes = length t.codes; numbers = length t.numbers; graph = length t.graph; form = length t.form; work = length t.work }

-- a session's answers and tables, each list as long as is needed
abbrev pub shown : State → Lent
shown t = record {
  codes = map (λ d. d.code) t.done;
  numbers = map (λ d. d.number) t.done;
  graph = render_graph t.graph;
  form = render_form t.form;
  work = render_work;
}

-- the first cells of each list, and the cells past those
abbrev pub first : Lengths → Lent → Lent
first m t = record {
  codes = take m.codes t.codes;
  numbers = take m.numbers t.numbers;
  graph = take m.graph t.graph;
  form = take m.form t.form;
  work = take m.work t.work;
}

abbrev pub past : Lengths → Lent → Lent
past m t = record {
  codes = drop m.codes t.codes;
  numbers = drop m.numbers t.numbers;
  graph = drop m.graph t.graph;
  form = drop m.form t.form;
  work = drop m.work t.work;
}

abbrev pub followed_by : Lent → Lent → Lent
followed_by t u = record {
  codes = t.codes ++ u.codes;
  numbers = t.numbers ++ u.numbers;
  graph = t.graph ++ u.graph;
  form = t.form ++ u.form;
  work = t.work ++ u.work;
}

-- The session's answer, and what the lists hold after it: where the answer is not 0, what they held before; else the answers and tables of its calls,
-- followed by what stood past the need.
abbrev pub outcome : List ℕ → List ℕ → List ℕ → List ℕ → Lent → ℕ × Lent
outcome ks xs ys zs t =
    let answer = whole_answer ks xs ys zs (lengths t) in
    (answer, if answer =? 0 then followed_by (shown (session (calls ks xs ys zs))) (past (needs (length ks)) t) else t)
