-- The number falls, since it is a tenth at the call.
-- Assumes nothing.
use Rattle.lines.proofs.pen.+put_digits.Given as goal

abbrev pub decreases-put_digits : goal.decreases-put_digits
decreases-put_digits l = l.n
