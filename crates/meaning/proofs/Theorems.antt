-- What is proved of the definition, one theorem after the other. Their words are in specs/, and each proof cites the one that shows it. Assumes nothing.
use Prim.Native.Nat.{ℕ, ◌+◌, ◌<◌, ◌≤◌}
use mathlib.Core.Path.{◌≡◌}
use mathlib.Core.Bool.{true}
use mathlib.Core.List.{List, ◌++◌, map}
use mathlib.Core.Option.{some}
use lib.ListN.{length, get_or}
use Rattle.entity.specs.Types.{unset_of}
use Rattle.definition.specs.Session.{Call, session, seal_each, answered}
use Rattle.definition.specs.Resolve.{Resolved, targets}
use Rattle.definition.specs.Read.{resolve}
use Rattle.definition.specs.Base.{◌∷ʳ◌}
use Rattle.meaning.specs.Path.{Supposed, Counted, NoneLate, In, given, callers, Right, Mem, res, enter}
use Rattle.meaning.specs.Bits.{FaithfulBits, UnsetShows, ZerosTyped}
use Rattle.meaning.specs.Turns.{Scheduled}
use Rattle.meaning.specs.Answers.{Answered}
use Rattle.meaning.specs.Stored.{Stored}
use Rattle.meaning.specs.Rooms.{Rooms}
use Rattle.meaning.specs.Own.{OwnFirst}
use Rattle.meaning.specs.Causes.{Once}
use Rattle.meaning.specs.Enough.{Enough}
use Rattle.meaning.specs.Holds.{Holds}
use Rattle.meaning.specs.Suppositions.{supposed?}
use Rattle.meaning.specs.Needed.{Demand3But}
use Rattle.meaning.specs.Marks.{Appended, RecordedExactly, ZerosGiven, CopiesNotAdded, DefsRecorded, DefsRecordedInTurn, unmark, unmarked}
use Rattle.meaning.proofs.Rooms.{fed_always, given_first, given_few, given_typed}
use Rattle.meaning.proofs.Steady.{calls_count, logged}
use Rattle.meaning.proofs.Turns.{scheduled, scheduled_all}
use Rattle.meaning.proofs.Demand.{demand_3, counted_right}
use Rattle.meaning.proofs.Bits.{shows, zeros_typed}
use Rattle.meaning.proofs.Answers.{answered_one}
use Rattle.meaning.proofs.Holds.{holds, still_caller}
use Rattle.meaning.proofs.Sure.{sure, from_then}
use Rattle.meaning.proofs.Suppositions.{supposed_sound, supposed_complete}
use Rattle.meaning.proofs.Needed.{needed}
use Rattle.meaning.proofs.Timely.{timely}
use Rattle.meaning.proofs.Brought.{brought}
use Rattle.meaning.proofs.Marks.{exactly, one_appended, zeros_given, copies_not_added, recorded_stays, defs_recorded, defs_recorded_in_turn}
use Rattle.meaning.proofs.Unmarked.{marks_silent}

-- ---- demand 3

-- On every path each use's answer, aliases resolved, holds what its variable last received, or its type's unset value; and every destination has an
-- argument for each parameter of its block: where all is as `Supposed` lists. Whatever the words are, and whatever the unset value of each type.
pub answers_hold : (cs : List Call) → Supposed (session cs) → Right (session cs)
answers_hold = demand_3

-- The same by bits: each answer holds the bits that its variable last received, or those of its type's unset value.
pub answers_hold_by_bits : (cs : List Call) → Supposed (session cs) → FaithfulBits (session cs)
answers_hold_by_bits cs S = (answers_hold cs S).0 ℕ unset_of

-- So where its variable received nothing on the path, the answer holds `unset_of` the variable's type: 0x7FC0_0000 for F32, 0x7FF8_0000_0000_0000 for F64,
-- 0 for an integer.
pub unset_shows : (cs : List Call) → Supposed (session cs) → UnsetShows (session cs)
unset_shows cs S = shows (session cs) (answers_hold_by_bits cs S)

-- In every session each value of sort zero, a first step too, and each variable has a known type, and these are the bits of that type's unset value.
pub zeros_have_bits : (cs : List Call) → ZerosTyped (session cs)
zeros_have_bits = zeros_typed

-- Of the caller's arguments it is enough to suppose how many there are, wherever they come from.
pub counts_suffice : (cs : List Call) → Counted (session cs) → Right (session cs)
counts_suffice = counted_right

-- On entry to a block each of its parameters, the caller's and the builder's, holds what its argument held before.
pub parameters_hold : (cs : List Call) (W : Type 0) (null : ℕ → W) (b : ℕ) (us : List ℕ) (m : Mem W null (session cs)) (j : ℕ)
    → j < length ((session cs).form.params b) → j < length us
    → (enter W null (session cs) b us m).val (get_or ((session cs).form.params b) j 0) ≡ m.val (res W null (session cs) (get_or us j 0))
parameters_hold = brought

-- Whether a session is as supposed is decided by looking at it.
pub suppositions_decided : (cs : List Call)
    → (supposed? (session cs) ≡ true → Supposed (session cs)) × (Supposed (session cs) → supposed? (session cs) ≡ true)
suppositions_decided cs = (supposed_sound cs, supposed_complete cs)

-- None of the five suppositions can be left out: without the one at k the claim is false.
pub suppositions_needed : (k : ℕ) → 1 ≤ k → k ≤ 5 → Demand3But k → ⊥
suppositions_needed = needed

-- What had to be supposed too, of every list: nothing is defined in a block once its branch was declared, also where it was removed again.
pub none_late : (cs : List Call) → NoneLate (session cs)
none_late cs = timely cs

-- ---- the machine

-- The stack machine does what the recursion does, for a use and for each pending variable of a seal: it ends with the recursion's answer. One run schedules
-- at most `call_room limits` calls. At every moment of it at most `result_room limits` results are held, the tables fit their rooms and what they hold names
-- what is there.
pub machine_is_recursion : (cs : List Call) → Scheduled (session cs).graph (session cs).form
machine_is_recursion = scheduled

-- So it is in `seal_all_blocks`, once the blocks bs are sealed.
pub machine_is_recursion_in_turn : (cs : List Call) (bs : List ℕ) → ((b : ℕ) → In b bs → b < (session cs).graph.blocks)
    → let r = seal_each bs (session cs).graph (session cs).form in Scheduled r.0 r.1
machine_is_recursion_in_turn = scheduled_all

-- ---- after every list of calls, and at every moment of a use and of a seal

-- All that `Holds` lists; the next theorems are its parts.
pub always_holds : (cs : List Call) → Holds (session cs).graph (session cs).form
always_holds = holds

-- No table needs more than its room.
pub rooms_suffice : (cs : List Call) → Rooms (session cs).graph (session cs).form
rooms_suffice cs = (holds cs).rooms

-- Every number that a table holds names something that is there.
pub numbers_named : (cs : List Call) → Stored (session cs).graph (session cs).form
numbers_named cs = (holds cs).stored

-- A caller's parameters stand before the builder's and are never removed.
pub callers_first : (cs : List Call) → OwnFirst (session cs).form
callers_first cs = (holds cs).own

pub callers_stay : (cs ds : List Call) (b x : ℕ) → In x (callers (session cs).form b) → In x (callers (session (cs ++ ds)).form b)
callers_stay = still_caller

-- Values stay what they are: sort, type and block are kept, also once a value is an alias.
pub values_stay : (cs ds : List Call) (x : ℕ) → x < (session cs).form.next → (session (cs ++ ds)).form.info x ≡ (session cs).form.info x
values_stay cs ds = (from_then cs ds).info

-- A variable causes at most one parameter and one zero per block, the zero in at most two steps, of which the first stands directly before it.
pub causes_once : (cs : List Call) → Once (session cs).graph (session cs).form
causes_once cs = (holds cs).once

-- Every chain of aliases ends, and the definition resolves as the public resolving does: with code 0 and the end of the chain.
pub chains_resolve : (cs : List Call) (x : ℕ) → x < (session cs).form.next → Resolved (targets (session cs).form) x 0 (resolve (session cs).form x)
chains_resolve cs = (holds cs).chains

-- The bounds that the definition computes with are never met: a greater depth of reading, a longer walk, more links change nothing.
pub bounds_suffice : (cs : List Call) → Enough (session cs).graph (session cs).form
bounds_suffice cs = (holds cs).enough

-- Each destination of a declared predecessor of a sealed block has the arguments that it was given, and as many others as the block has builder's parameters.
pub arguments_match : (cs : List Call) (p i : ℕ) → let g = (session cs).graph in
    let s = (session cs).form in
    let b = get_or (g.dests p) i 0 in
    i < length (g.dests p) → g.sealed b ≡ true → In p (g.preds b)
    → length (s.args p i) + s.owns b ≡ length (given p i (session cs).done) + length (s.params b)
arguments_match = fed_always

-- At each destination the arguments that it was given stand first, and they are no more than its block has caller's parameters.
pub arguments_given : (cs : List Call) (p i : ℕ) → (r : List ℕ) × ((session cs).form.args p i ≡ given p i (session cs).done ++ r)
arguments_given = given_first

pub arguments_few : (cs : List Call) (p i : ℕ) → length (given p i (session cs).done) ≤ (session cs).form.owns (get_or ((session cs).graph.dests p) i 0)
arguments_few = given_few

-- Each of them has the type of the caller's parameter in its place.
pub arguments_typed : (cs : List Call) (p i j : ℕ) → let s = (session cs).form in
    j < length (given p i (session cs).done)
    → (s.info (get_or (s.args p i) j 0)).type ≡ (s.info (get_or (s.params (get_or ((session cs).graph.dests p) i 0)) j 0)).type
arguments_typed = given_typed

-- ---- stack maps

-- A value is in the set exactly if a marked variable was given it by a definition, or had it appended as its parameter.
pub recorded_exactly : (cs : List Call) → RecordedExactly cs
recorded_exactly = exactly

-- No parameter is appended for two variables.
pub appended_for_one : (cs : List Call) (v w x : ℕ) → Appended cs v x → Appended cs w x → v ≡ w
appended_for_one = one_appended

-- So a zero is in the set only if a definition gave it to a marked variable.
pub zeros_not_recorded : (cs : List Call) → ZerosGiven cs
zeros_not_recorded = zeros_given

-- And a call that is no definition adds no value that was there before it, as those are that a walk copies or that a parameter becomes an alias of.
pub copies_not_recorded : (cs : List Call) (c : Call) → CopiesNotAdded cs c
copies_not_recorded = copies_not_added

-- What is in the set stays there.
pub recorded_for_good : (cs ds : List Call) (x : ℕ) → (session cs).form.recorded x ≡ true → (session (cs ++ ds)).form.recorded x ≡ true
recorded_for_good = recorded_stays

-- What is recorded as a marked variable's definition, in any block, is in the set: what use_var_nonlocal asserts.
pub definitions_recorded : (cs : List Call) → DefsRecorded (session cs).graph (session cs).form
definitions_recorded = defs_recorded

-- So it is at every moment of a use and of a seal, also in `seal_all_blocks`, once the blocks bs are sealed.
pub definitions_recorded_in_turn : (cs : List Call) (bs : List ℕ)
    → let r = seal_each bs (session cs).graph (session cs).form in DefsRecordedInTurn r.0 r.1
definitions_recorded_in_turn = defs_recorded_in_turn

-- Marks change nothing else: a session leaves what the same list leaves in which a call that does nothing stands for each mark, but for marks, the set and the
-- answers of those calls.
pub marks_change_nothing_else : (cs : List Call) → unmarked (session cs) ≡ session (map unmark cs)
marks_change_nothing_else = marks_silent

-- ---- calls and answers

-- Every call gets one answer and is counted. A refused call changes nothing else.
pub one_answer : (cs : List Call) (c : Call) → Answered (session cs) c (session (cs ∷ʳ c))
one_answer = answered_one

-- So as many calls are counted, and as many answers given, as there are calls.
pub all_answered : (cs : List Call) → ((session cs).graph.call ≡ length cs) × (length (session cs).done ≡ length cs)
all_answered = calls_count

-- An accepted use's answer names a value that is there, and a zero was logged by a call of the list.
pub answers_named : (cs : List Call) (i x : ℕ) → answered (session cs).done i ≡ some x → x < (session cs).form.next
answers_named cs = (sure cs).answers

pub zeros_logged : (cs : List Call) (z : ℕ × ℕ) → In z (session cs).form.zeros → z.0 < length cs
zeros_logged = logged
