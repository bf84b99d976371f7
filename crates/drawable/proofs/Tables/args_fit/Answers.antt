-- `args_fit` meets its contract: the closure tells of each destination whether its arguments fit, so `all` tells it of all.
-- Assumes nothing.
use Rattle.std.proofs.Common.{rules, tests, ◌∙◌}
use native.Mathlib.Omega.{arith}
use Rattle.std.proofs.lemmas.Iterator.{YieldsList-from_range}
use Rattle.std.proofs.lemmas.Iterator.Search.{all_from_yields_List}
use Rattle.drawable.specs.Fits.{args_fit}
use Rattle.drawable.proofs.Checks.{every_up}
use Rattle.drawable.proofs.Tables.args_fit.Goals as goal

pub returns : goal.returns
returns c =
    let fits = args_fit c.args.self.now.form.now c.args.branch.0 in
    all_from_yields_List fits _ _ _ c.all.ensures.ran (YieldsList-from_range 0 c.args.count c.args.count (cc) (omega arith)) (λ i b q k. search (rules, tests))
    ∙ every_up fits 0 c.args.count
