-- `block_fits` meets its contract: it makes the definition's tests in their order.
-- Assumes nothing.
use Rattle.std.proofs.Common.{sym, ap, ◌∙◌, not, eq-eqb, ne_eqb}
use Rattle.drawable.specs.Fits.{branch_fits}
use Rattle.drawable.proofs.Checks.{row_is, block_off, block_by}
use Rattle.drawable.proofs.Tables.block_fits.Goals as goal

pub returns-then-not-row_fits : goal.returns-then-not-row_fits
returns-then-not-row_fits c = sym (block_off _ _ _ (row_is _ _ _ c.row_fits.ensures c.params_at.ensures c.if-not-row_fits.true))

pub returns-then-self-b-eq0 : goal.returns-then-self-b-eq0
returns-then-self-b-eq0 c =
    sym (block_by _ _ _ (row_is _ _ _ c.row_fits.ensures c.params_at.ensures c.if-not-row_fits.false) (ap not (eq-eqb _ _ c.if-self-b-eq0.true)))

pub returns : goal.returns
returns c =
    c.branch_fits.ensures
    ∙ ap (branch_fits c.args.self.now.graph.now c.args.self.now.form.now) c.from.ensures
    ∙ sym (block_by _ _ _ (row_is _ _ _ c.row_fits.ensures c.params_at.ensures c.if-not-row_fits.false) (ap not (ne_eqb _ _ c.if-self-b-eq0.false)))
