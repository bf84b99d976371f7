-- `put_text` meets its contract: the pieces of the text stand one after the other.
-- Assumes nothing.
use Rattle.std.proofs.Common.{rules, ◌∙◌}
use Rattle.lines.proofs.Pieces.{◌then◌, whole}
use Rattle.draw.proofs.text.put_text.Goals as goal

pub returns : goal.returns
returns c =
    let all = c.put.ensures then c.put_blocks.ensures.wrote then c.put_branches.ensures.wrote then c.put-2.ensures in
    let same = all.same_buffer ∙ c.new-pen.ensures.same_reference in
    whole all c.new-pen.ensures.now.0 c.new-pen.ensures.now.1 (search rules)
