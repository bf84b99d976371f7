-- `branch_fits` meets its contract: it makes the definition's tests in their order.
-- Assumes nothing.
use Rattle.std.proofs.Common.{sym, ◌∙◌}
use Rattle.drawable.proofs.Checks.{row_few, row_is, branch_off, branch_on}
use Rattle.drawable.proofs.Tables.branch_fits.Goals as goal

pub returns-then-not-row_fits : goal.returns-then-not-row_fits
returns-then-not-row_fits c = sym (branch_off _ _ _ (row_is _ _ _ c.row_fits.ensures c.dests_at-at.ensures c.if-not-row_fits.true))

pub args_fit-requires : goal.args_fit-requires
args_fit-requires c = (row_few _ _ _ _ (sym c.row_fits.ensures ∙ c.if-not-row_fits.false), c.requires)

pub returns : goal.returns
returns c =
    c.args_fit.ensures ∙ branch_on _ _ _ c.dests_at-at.ensures (row_is _ _ _ c.row_fits.ensures c.dests_at-at.ensures c.if-not-row_fits.false)
