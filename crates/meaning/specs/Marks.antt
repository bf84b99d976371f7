-- Stack maps: which values are in the set, by the calls; what stands for a marked variable is in it; and marks change nothing else. Assumes nothing.
use Rattle.std.specs.Prelude.{ℕ, ◌<◌, ◌≤◌, ◌≡◌, ◌⊎◌, ◌≢◌, true, false, List, [], ◌∷◌, ◌++◌, map, if◌then◌else◌}
use Rattle.std.proofs.Math.Option.{some}
use Rattle.definition.specs.Base.{Block, Variable, Value, ◌=?◌, ◌∷ʳ◌}
use Rattle.definition.specs.Form.{Graph, Form, nought, def, with_marks, with_recorded}
use Rattle.definition.specs.Read.{set_pending, settle_pending}
use Rattle.definition.specs.Session.{Call, Done, State, session, mark_sealed}
use Rattle.meaning.specs.Path.{In, gives, acts}
use Rattle.meaning.specs.Causes.{CausesParam}
use Rattle.meaning.specs.Machine.{conf, schedule, visit, turns}

-- ---- who is in the set

-- an accepted call of kind 4 or 5, in some block, gave v the value x
abbrev pub GivenTo : State → Variable → Value → Type 0
GivenTo t v x = (b : Block) × In (gives v x) (acts b t.done)

-- A call of the list appended x as v's parameter: before it there was no value x, and after it x is a parameter of the builder's and stands for v where its
-- block begins. By then no other variable can have been given x, so x stands for v alone (`appended_for_one`).
pub record Appended (cs : List Call) (v : Variable) (x : Value) : Type 0 where
  pub before : List Call
  pub call : Call
  pub after : List Call
  pub parts : cs ≡ before ++ call ∷ after
  pub new : (session before).form.next ≤ x
  pub causes : let s = (session (before ∷ʳ call)).form in CausesParam s v (s.info x).home x

-- v got x as its own: by a definition, or as its parameter
abbrev pub Receives : List Call → Variable → Value → Type 0
Receives cs v x = GivenTo (session cs) v x ⊎ Appended cs v x

-- exactly what a marked variable got as its own is in the set
pub record RecordedExactly (cs : List Call) : Type 0 where
  pub only : (x : Value) → (session cs).form.recorded x ≡ true → (v : Variable) × ((session cs).graph.marks v ≡ true) × Receives cs v x
  pub all : (x : Value) (v : Variable) → (session cs).graph.marks v ≡ true → Receives cs v x → (session cs).form.recorded x ≡ true

-- so a zero is in the set only if it was given to a marked variable
abbrev pub ZerosGiven : List Call → Type 0
ZerosGiven cs = (z : Value) → (session cs).form.recorded z ≡ true → ((session cs).form.info z).sort ≡ nought
    → (v : Variable) × ((session cs).graph.marks v ≡ true) × GivenTo (session cs) v z

-- and a call that is no definition adds no value that was there before it
abbrev pub CopiesNotAdded : List Call → Call → Type 0
CopiesNotAdded cs c = c.kind ≢ 4 → c.kind ≢ 5 → (x : Value) → x < (session cs).form.next
    → (session (cs ∷ʳ c)).form.recorded x ≡ true → (session cs).form.recorded x ≡ true

-- ---- what stands for a marked variable is in the set

-- this is the debug assertion of use_var_nonlocal, in every block
abbrev pub DefsRecorded : Graph → Form → Type 0
DefsRecorded g s = (v : Variable) (b : Block) (x : Value) → g.marks v ≡ true → def s v b ≡ some x → s.recorded x ≡ true

-- at every moment of a use of v in b, and of a seal of b once the variables us are settled and w is at work
pub record DefsRecordedInTurn (g : Graph) (s : Form) : Type 0 where
  pub of_use : (v : Variable) (b : Block) (n : ℕ) → DefsRecorded g (turns n g v (visit g v b [] [] s (def s v b))).form
  pub of_seal : (b : Block) (us : List (Variable × Value)) (w : Variable × Value) (n : ℕ) → let now = mark_sealed g b in
      DefsRecorded now (turns n now w.0 (conf (schedule now w.1 b []) [] (settle_pending now b us (set_pending b [] s)))).form

-- ---- marks change nothing else

-- a call of kind 0 does nothing: it is refused with 3
abbrev pub nothing : Call
nothing = record { kind = 0; x = 0; y = 0; z = 0 }

-- the same list, where such a call stands for each of kind 17
abbrev pub unmark : Call → Call
unmark c = if c.kind =? 17 then nothing else c

-- the same answers, but for those calls
abbrev pub unmark_done : Done → Done
unmark_done d = if d.asked.kind =? 17 then record { asked = nothing; code = 3; number = 0 } else d

-- the state without marks, without the set, and without the answers of kind 17
abbrev pub unmarked : State → State
unmarked t = record {
  graph = with_marks t.graph (λ v. false);
  form = with_recorded t.form (λ x. false);
  done = map unmark_done t.done;
}
