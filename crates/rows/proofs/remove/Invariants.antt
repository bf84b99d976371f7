-- `remove`: what is left of the row, sifted from here, gives what the whole row gives.
-- Assumes nothing.
use Rattle.std.proofs.Common.{◌-◌, ◌≡◌, ◌≤◌}
use Rattle.layout.specs.Rows.{sift}
use Rattle.rows.proofs.remove.Given as goal

abbrev pub invariant-loop-i : goal.invariant-loop-i
invariant-loop-i l = (l.kept ≤ l.i) × (sift l.at l.x (l.n - l.i) l.i l.kept l.t ≡ sift l.at l.x l.n 0 0 l.initial.t)
