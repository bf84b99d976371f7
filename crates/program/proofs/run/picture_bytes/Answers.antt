-- `picture_bytes` meets its contract: the constant is what the limits ask, and by the law of repeated cells the array has as many. To count them takes seconds.
-- Assumes nothing.
use Rattle.std.proofs.Common.{ℕ, ◌≡◌, refl, sym, ◌∙◌, suc, ◌*◌}
use Rattle.std.proofs.lemmas.List.{length-replicate}
use Rattle.entity.specs.Limits.{limits, param_room}
use Rattle.program.specs.declared.run.TheConstants.{PICTURE_BYTES}
use Rattle.program.proofs.run.picture_bytes.Goals as goal

pub returns : goal.returns
returns c =
    let asked : limits.blocks * suc limits.dests * (8 * param_room limits) ≡ PICTURE_BYTES = refl in
    asked ∙ sym (length-replicate {A = ℕ} PICTURE_BYTES 0)
