use Rattle.std.proofs.lemmas.Result.{err_from_is_err_and}
use Rattle.problem.specs.Tables.{means}
use Rattle.rules.specs.Formula.{frame_cell}
use Rattle.formula.specs.Visits.{Shown}
use Rattle.formula.proofs.Visiting.{along_more, along_stop}
use Rattle.formula.proofs.slots.Slot.each_frame.Goals as goal

pub loop-f-preserved : goal.loop-f-preserved
loop-f-preserved g c = along_more (Shown g.F.Fn c.args.visit.now) (frame_cell (means c.args.self.now.table.now) c.args.self.now.before) _ _ _ _ _ _ c.loop-f.invariant c.loop-f-test.true c.in_ok-frame_pair.ensures.visits_pair

pub returns-in_err-frame_pair : goal.returns-in_err-frame_pair
returns-in_err-frame_pair g c =
    let p = err_from_is_err_and c.from_residual.result c.from_residual.ensures.1 in
    record { visits_frames = rw (p.1, p.2) (along_stop (Shown g.F.Fn c.args.visit.now) (frame_cell (means c.args.self.now.table.now) c.args.self.now.before) _ _ _ _ _ _ _ c.loop-f.invariant c.loop-f-test.true c.in_err-frame_pair.ensures.visits_pair) }
