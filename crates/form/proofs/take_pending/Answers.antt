-- `take_pending` meets its contract: the row's entries are copied to the front of the list, then the row is cleared.
-- Assumes nothing.
use Rattle.std.proofs.Common.{arith, rules, ◌≡◌, ◌∙◌, ℕ, List, ◌++◌, length, take, length-take}
use Rattle.std.proofs.Math.Seq.{take-append_seam}
use Rattle.form.proofs.Variables.{pending_readable, pending_cleared, pending_entries}
use Rattle.form.proofs.take_pending.Goals as goal

-- what a list has at its front, as long as that is
front : (xs ys : List ℕ) (n : ℕ) → length xs ≡ n → take n (xs ++ ys) ≡ xs
front xs ys n e = rw (← e) (take-append_seam xs ys)

pub clear-requires : goal.clear-requires
clear-requires c = rw c.pending_at-at.ensures (pending_readable _ _ c.requires.ex.0 c.requires.ex.1)

pub returns : goal.returns
returns c = (
  search rules,
  λ s p. record {
    cells = pending_cleared _ _ s p _ (rw c.pending_at-at.ensures at c.clear.ensures);
    lists =
        let long : length c.copy_from_slice.new.self ≡ c.pending_count-n.result = omega (arith, c.copy_from_slice.ensures.len, length-take {A = ℕ}) in
        front c.copy_from_slice.new.self _ c.pending_count-n.result long
        ∙ (rw c.pending_at-at.ensures at c.copy_from_slice.ensures.after) ∙ pending_entries _ _ s p _ (omega (arith, c.pending_count-n.ensures.1 s p));
  },
)
