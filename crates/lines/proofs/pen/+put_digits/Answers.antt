-- `put_digits` meets its contract: the last digit stands after those of a tenth.
-- Assumes nothing.
use Rattle.std.proofs.Common.{◌∙◌, arith, length-append}
use Rattle.lines.proofs.Pieces.{decimal_small, decimal_big, sets_append}
use Rattle.lines.proofs.pen.+put_digits.Goals.{then-n-lt10, else-n-lt10}
use Rattle.lines.proofs.pen.+put_digits.Goals as goal

pub returns-clause-wrote : goal.returns-clause-wrote
returns-clause-wrote t c = elim c.if-n-lt10.branch [
  | then-n-lt10 w ↦
      let d = decimal_small _ w.if-n-lt10.true in
      record { end = rw (d, w.last-is); out = c.poke.ensures ∙ (rw (d, w.last-is, w.out-is)) }
  | else-n-lt10 w ↦
      let d = decimal_big _ w.if-n-lt10.false in
      let e = w.put_digits.ensures.wrote in
      record {
        end = rw (d, w.last-is) (simp length-append (omega (arith, e.end)));
        out = c.poke.ensures ∙ (rw (d, sets_append, w.last-is, w.out-is) (cc (e.end, e.out)));
      }
]
