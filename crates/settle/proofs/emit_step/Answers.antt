-- `emit_step` meets its contract: it makes the first step that the type's table tells, if it tells one.
-- Assumes nothing.
use Rattle.std.proofs.Common.{arith, sym, ap, ◌∙◌}
use Rattle.entity.specs.Types.{number_found}
use Rattle.settle.proofs.Settles.{step_fits, step_made, step_counts}
use Rattle.settle.proofs.emit_step.Goals as goal

pub make-requires-clause-fits : goal.make-requires-clause-fits
make-requires-clause-fits c =
    let is = sym (ap number_found c.in-Some.is) ∙ c.step.ensures in
    record { type = step_fits c.args.ty _ is; sort = omega arith; block = c.requires.1.known }

pub returns-in-Some : goal.returns-in-Some
returns-in-Some c =
    let is = sym (ap number_found c.in-Some.is) ∙ c.step.ensures in
    let made = c.make.ensures in
    (step_counts _ _ made.0, λ s h. step_made _ _ _ s h c.args.ty _ _ _ is made.0 made.1)
