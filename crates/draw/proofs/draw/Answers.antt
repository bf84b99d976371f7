-- `draw` meets its contract: the codes are settled by the tests in their order; the text is measured, then written.
-- Assumes nothing.
use Rattle.std.proofs.Common.{sym, ◌∙◌, zero-add}
use Rattle.drawable.proofs.Checks.{drawable_decided}
use Rattle.draw.proofs.Codes.{room}
use Rattle.draw.proofs.draw.Goals as goal

pub put_text-length-requires : goal.put_text-length-requires
put_text-length-requires c = (drawable_decided _ _).sound (sym c.drawable.ensures ∙ c.if-not-drawable.false)

pub put_text-requires : goal.put_text-requires
put_text-requires c = (drawable_decided _ _).sound (sym c.drawable.ensures ∙ c.if-not-drawable.false)

pub returns : goal.returns
returns c =
    room _ _ _ record { graph_long = c.if-graph-lt-GRAPH_NEED.false; form_long = c.if-form-lt-FORM_NEED.false }
    (sym c.drawable.ensures ∙ c.if-not-drawable.false) (c.put_text-length.ensures.end ∙ zero-add _) c.if-buffer-length.false c.put_text.ensures
