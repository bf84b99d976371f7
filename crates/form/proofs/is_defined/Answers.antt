-- `is_defined` meets its contract: the closure tells of each block whether it defines the variable, so `any` tells it of all.
-- Assumes nothing.
use Rattle.std.proofs.Common.{rules, tests, ℕ, sym, ap}
use Rattle.definition.specs.Base.{is_some, up_from}
use Rattle.definition.specs.Form.{def}
use Rattle.layout.proofs.Places.{any_of_places, up_long, up_at}
use Rattle.form.proofs.Defined.{has_def}
use Rattle.form.proofs.is_defined.Goals as goal

pub returns : goal.returns
returns c = λ s p.
    let here = λ (b : ℕ). is_some (def s c.args.var.0 b) in
    any_of_places here here (up_from 0 c.args.blocks) _ (up_long _) (λ b lt. ap here (sym (up_at _ b lt))) _ c.any.ensures.ran (cc)
    (λ b q k lt. let h = has_def p lt in search (rules, tests)) (λ b q k. search (rules, tests))
