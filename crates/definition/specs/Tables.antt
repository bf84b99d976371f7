-- All that a session leaves, laid open as lists: every answer, and every table of docs/RULES.md.
-- Assumes nothing.
use Rattle.std.specs.Prelude.{ℕ, suc, Bool, true, false, List, [], ◌∷◌, map, length, get_or}
use Rattle.std.proofs.Math.Option.{Option, none, some}
use Rattle.definition.specs.Base.{Block, Value, up_from}
use Rattle.definition.specs.Form.{Graph, Form, Sort, made, param, nought, caller, def}
use Rattle.definition.specs.Session.{Done, State, bit}

pub record Tables : Type 0 where
  pub counts : List ℕ  -- blocks, variables, values, made values, zeros
  pub answers : List (ℕ × ℕ)  -- code, number
  pub types : List ℕ  -- by variable
  pub marks : List ℕ  -- by variable: is it marked for stack maps?
  pub values : List (ℕ × ℕ × ℕ × ℕ)  -- sort, type, block, alias target
  pub recorded : List ℕ  -- by value: is it recorded for stack maps?
  pub params : List (List ℕ)  -- by block
  pub owns : List ℕ  -- by block: how many of these are the caller's
  pub branches : List (List (List (ℕ × List ℕ)))  -- by block: no branch, or one; each destination's block and arguments
  pub preds : List (List ℕ)  -- by block
  pub pending : List (List ℕ)  -- by block
  pub sealed : List ℕ  -- by block
  pub declared : List ℕ  -- by block: was its branch ever declared?
  pub last : List (List ℕ)  -- by block, by variable: the recorded value plus one, 0 for none
  pub zeros : List (ℕ × ℕ)  -- the zero log: call, block
  pub placed : List ℕ

abbrev pub sort_number : Sort → ℕ
sort_number made = 0
sort_number param = 1
sort_number nought = 2
sort_number caller = 3

abbrev pub plus_one : Option ℕ → ℕ
plus_one none = 0
plus_one (some x) = suc x

module _ (g : Graph) (s : Form) where
  abbrev pub value_row : Value → ℕ × ℕ × ℕ × ℕ
  value_row x = (sort_number (s.info x).sort, (s.info x).type, (s.info x).home, s.target x)

  -- the destination of b's branch at place i, and its arguments
  abbrev pub dest_row : Block → ℕ → ℕ × List ℕ
  dest_row b i = (get_or (g.dests b) i 0, s.args b i)

  abbrev pub branch_row : Block → Bool → List (List (ℕ × List ℕ))
  branch_row b true = map (dest_row b) (up_from 0 (length (g.dests b))) ∷ []
  branch_row b false = []

  abbrev pub last_row : Block → List ℕ
  last_row b = map (λ v. plus_one (def s v b)) (up_from 0 (length g.types))

  -- of these blocks, after these calls
  abbrev pub tables_of : List Done → List Block → Tables
  tables_of ds bs = record {
    counts = g.blocks ∷ length g.types ∷ s.next ∷ s.makes ∷ length s.zeros ∷ [];
    answers = map (λ d. (d.code, d.number)) ds;
    types = g.types;
    marks = map (λ v. bit (g.marks v)) (up_from 0 (length g.types));
    values = map value_row (up_from 0 s.next);
    recorded = map (λ x. bit (s.recorded x)) (up_from 0 s.next);
    params = map s.params bs;
    owns = map s.owns bs;
    branches = map (λ b. branch_row b (g.branch b)) bs;
    preds = map g.preds bs;
    pending = map (λ b. map (λ w. w.0) (s.pending b)) bs;
    sealed = map (λ b. bit (g.sealed b)) bs;
    declared = map (λ b. bit (g.declared b)) bs;
    last = map last_row bs;
    zeros = s.zeros;
    placed = s.placed;
  }

abbrev pub tables : State → Tables
tables t = tables_of t.graph t.form t.done (up_from 0 t.graph.blocks)
