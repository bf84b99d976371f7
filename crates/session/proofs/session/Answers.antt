-- `session` meets its contract: the two tests are the definition's, and the first cells of each list are lent on to the run.
-- Assumes nothing.
use Rattle.std.proofs.Common.{sym}
use Rattle.reply.proofs.Answered.{tested}
use Rattle.layout.specs.Outcome.{lent}
use Rattle.session.proofs.Fits.{run_exact, all_done}
use Rattle.session.proofs.session.Goals as goal

pub slice_bounds-run-end-6 : goal.slice_bounds-run-end-6
slice_bounds-run-end-6 c =
    let a = c.args in
    let t = lent a.codes.now a.numbers.now a.graph.now a.form.now a.work.now in
    sym (run_exact a.kinds.now a.xs.now a.ys.now a.zs.now t c.unfit.ensures c.if-unfit.false c.short.ensures c.if-short.false).graph_exact

pub slice_bounds-run-end-8 : goal.slice_bounds-run-end-8
slice_bounds-run-end-8 c =
    let a = c.args in
    let t = lent a.codes.now a.numbers.now a.graph.now a.form.now a.work.now in
    sym (run_exact a.kinds.now a.xs.now a.ys.now a.zs.now t c.unfit.ensures c.if-unfit.false c.short.ensures c.if-short.false).form_exact

pub slice_bounds-run-end-10 : goal.slice_bounds-run-end-10
slice_bounds-run-end-10 c =
    let a = c.args in
    let t = lent a.codes.now a.numbers.now a.graph.now a.form.now a.work.now in
    sym (run_exact a.kinds.now a.xs.now a.ys.now a.zs.now t c.unfit.ensures c.if-unfit.false c.short.ensures c.if-short.false).work_exact

pub run-requires-clause-exact : goal.run-requires-clause-exact
run-requires-clause-exact c =
    let a = c.args in
    let t = lent a.codes.now a.numbers.now a.graph.now a.form.now a.work.now in
    run_exact a.kinds.now a.xs.now a.ys.now a.zs.now t c.unfit.ensures c.if-unfit.false c.short.ensures c.if-short.false

pub returns : goal.returns
returns c = all_done _ _ _ _ _ (tested c.unfit.ensures c.if-unfit.false) (tested c.short.ensures c.if-short.false) c.run.ensures
