-- The checks that kinds 9 and 10 have in common, and what a check says of a call.
-- Assumes nothing.
use Rattle.std.specs.Prelude.{ℕ, ◌||◌, Result, Ok, Err}
use Rattle.definition.specs.Form.{Graph, Form}
use Rattle.definition.specs.Session.{Reply, no, refuse◌when◌else◌, no_block, no_branch}
use Rattle.reply.specs.declared.Refusal.{Refusal}
use Rattle.reply.specs.Replies.{refusal_code}

-- the reply is d where the check was passed; else the code's refusal
abbrev pub checked : {A : Type 0} → Result A Refusal → Reply → Reply
checked (Ok x) d = d
checked (Err e) d = no (refusal_code e)

-- block b and branch p are there, and b is not sealed: then d
abbrev pub pred_checked : Graph → Form → ℕ → ℕ → Reply → Reply
pred_checked g s b p d =
    refuse 6 when (no_block g s b || no_branch g s p) else
    refuse 8 when g.sealed b else
    d
