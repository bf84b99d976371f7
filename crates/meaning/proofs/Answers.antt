-- Every call gets one answer and is counted, and a refused call changes nothing else: by the two cases of a reply. Assumes nothing.
use Prim.Native.Nat.{suc}
use mathlib.Core.Path.{◌≡◌, refl, sym, ap, subst}
use mathlib.Core.List.{List, [], ◌∷◌}
use lib.ListN.{length-append}
use native.Mathlib.Omega.{arith}
use Rattle.definition.specs.Session.{no, Call, State, run, session, step, empty, Reply, after, ok, reply}
use Rattle.definition.specs.Base.{◌∷ʳ◌}
use Rattle.meaning.specs.Answers.{Answered}
use Rattle.meaning.proofs.Steady.{calls_count}

pub run_last : (cs : List Call) (c : Call) (t : State) → run t (cs ∷ʳ c) ≡ step (run t cs) c
run_last [] c t = refl
run_last (d ∷ cs) c t = run_last cs c (step t d)

pub answered_one : (cs : List Call) (c : Call) → Answered (session cs) c (session (cs ∷ʳ c))
answered_one cs c = subst (λ (u : State). Answered t c u) (sym last) (by (reply t.graph t.form t.done c.x c.y c.z c.kind) counted)
  where
    t : State
    t = session cs

    last : session (cs ∷ʳ c) ≡ step (session cs) c
    last = run_last cs c empty

    counted : (step (session cs) c).graph.call ≡ suc (session cs).graph.call
    counted = omega (arith, ap (λ (u : State). u.graph.call) last, (calls_count cs).0, (calls_count (cs ∷ʳ c)).0, length-append cs (c ∷ []))

    by : (r : Reply) → (after (session cs) c r).graph.call ≡ suc (session cs).graph.call → Answered (session cs) c (after (session cs) c r)
    by (no k) e = record { answer = record { asked = c; code = k; number = 0 }; asked = refl; done = refl; counted = e; refused = λ _. (refl, refl, refl) }
    by (ok n g s) e = record { answer = record { asked = c; code = 0; number = n }; asked = refl; done = refl; counted = e; refused = λ d. absurd (d refl) }
