-- One turn of the list: the call's answer is written beside those before it.
-- Assumes nothing.
use Rattle.std.specs.Prelude.{ℕ, ◌+◌, ◌≡◌, List, map, length, get_or, set, take}
use Rattle.definition.specs.Session.{Call, Done, State}
use Rattle.layout.specs.declared.Counts.{Counts}
use Rattle.layout.specs.Counts.{counts}
use Rattle.reply.specs.declared.Reply.{Reply}
use Rattle.calls.specs.Calls.{Between}
use Rattle.turns.specs.declared.lists.Calls.{Calls}
use Rattle.turns.specs.declared.lists.Answers.{Answers}

-- the next call's number
abbrev pub next_call : Counts → Counts
next_call c = counts c.values c.calls c.results (c.call + 1)

-- the call at place i
abbrev pub call_at : Calls → ℕ → Call
call_at asked i = record {
  kind = get_or asked.kinds.now i 0;
  x = get_or asked.xs.now i 0;
  y = get_or asked.ys.now i 0;
  z = get_or asked.zs.now i 0;
}

-- What was done: it asked the first of these kinds, and its answers stand first in the codes and numbers.
pub record Told (ks ls ns : List ℕ) (ds : List Done) : Type 0 where
  pub kinds : take (length ds) ks ≡ map (λ d. d.asked.kind) ds
  pub codes : take (length ds) ls ≡ map (λ d. d.code) ds
  pub numbers : take (length ds) ns ≡ map (λ d. d.number) ds

-- i calls were done, which led to the state t
pub record Turned (asked : Calls) (a : Answers) (gl fl wl : List ℕ) (c : Counts) (i : ℕ) (t : State) : Type 0 where
  pub told : Told asked.kinds.now a.codes.now a.numbers.now t.done
  pub between : Between gl fl wl c t
  pub turns : i ≡ length t.done

-- answers in the same two lists, as long as they were
pub record SameRoom (before after : Answers) : Type 0 where
  pub codes : after.codes.ghost_name ≡ before.codes.ghost_name
  pub numbers : after.numbers.ghost_name ≡ before.numbers.ghost_name
  pub long : length after.codes.now ≡ length before.codes.now

-- the answer at place i was written, and no other
pub record Written (before : Answers) (i : ℕ) (r : Reply) (after : Answers) : Type 0 where
  pub codes : after.codes.now ≡ set before.codes.now i r.code
  pub numbers : after.numbers.now ≡ set before.numbers.now i r.number
