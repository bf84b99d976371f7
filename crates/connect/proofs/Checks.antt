-- What a check says decides the reply to the call that was checked; and a test's byte is the definition's.
-- Assumes nothing.
use Prim.Native.Nat.{ℕ}
use mathlib.Core.Path.{◌≡◌, refl}
use mathlib.Core.Bool.{Bool, true, false}
use mathlib.Core.List.{List}
use mir.Val.{bool_byte}
use Rattle.std.specs.Prelude.{Result, IsErrAnd}
use Rattle.definition.specs.Session.{State, Reply, no, bit}
use Rattle.layout.specs.declared.Counts.{Counts}
use Rattle.reply.specs.declared.Accepted.{Accepted}
use Rattle.reply.specs.declared.Refusal.{Refusal}
use Rattle.reply.specs.Replies.{Replies, Showing, refusal_code, reply_of}
use Rattle.reply.proofs.Answered.{turned_down}

-- where the check refuses, so does the call, whatever d it would come to
pub refused_by : {gl fl : List ℕ} {c : Counts} {t : State} (h : Showing gl fl c t) (r : Result Accepted Refusal) (e : Refusal)
    → IsErrAnd r (λ (k : Refusal). k ≡ e) → {d : Reply} → no (refusal_code e) ≡ d → Replies gl fl (reply_of c r) t.graph t.form d
refused_by h r e p q = rw (← q) (turned_down h r e p)

pub byte_is : (b : Bool) → bool_byte b ≡ bit b
byte_is true = refl
byte_is false = refl
