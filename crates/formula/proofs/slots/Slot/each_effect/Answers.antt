use Rattle.std.proofs.lemmas.Result.{err_from_is_err_and}
use Rattle.problem.specs.Tables.{means}
use Rattle.formula.specs.Effects.{effect_row}
use Rattle.formula.specs.Visits.{Shown}
use Rattle.formula.proofs.Visiting.{along_more, along_stop}
use Rattle.formula.proofs.slots.Slot.each_effect.Goals as goal

pub loop-a-preserved : goal.loop-a-preserved
loop-a-preserved g c = along_more (Shown g.F.Fn c.args.visit.now) (effect_row (means c.args.self.now.table.now) c.args.part c.args.self.now.before) _ _ _ _ _ _ c.loop-a.invariant c.loop-a-test.true c.in_ok-effects_of.ensures.visits_row

pub returns-in_err-effects_of : goal.returns-in_err-effects_of
returns-in_err-effects_of g c =
    let p = err_from_is_err_and c.from_residual.result c.from_residual.ensures.1 in
    record { visits_effects = rw (p.1, p.2) (along_stop (Shown g.F.Fn c.args.visit.now) (effect_row (means c.args.self.now.table.now) c.args.part c.args.self.now.before) _ _ _ _ _ _ _ c.loop-a.invariant c.loop-a-test.true c.in_err-effects_of.ensures.visits_row) }
