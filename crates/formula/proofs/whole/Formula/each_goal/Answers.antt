use Rattle.std.proofs.lemmas.Result.{err_from_is_err_and}
use Rattle.problem.specs.Tables.{means}
use Rattle.rules.specs.Formula.{goal_cell}
use Rattle.formula.specs.Visits.{Shown}
use Rattle.formula.proofs.Visiting.{along_more, along_stop}
use Rattle.formula.proofs.whole.Formula.each_goal.Goals as goal

pub loop-f-preserved : goal.loop-f-preserved
loop-f-preserved g c = along_more (Shown g.F.Fn c.args.visit.now) (goal_cell (means c.args.self.now.table) c.args.self.now.horizon) _ _ _ _ _ _ c.loop-f.invariant c.loop-f-test.true c.in_ok-goal_clause.ensures.visits_goal

pub returns-in_err-goal_clause : goal.returns-in_err-goal_clause
returns-in_err-goal_clause g c =
    let p = err_from_is_err_and c.from_residual.result c.from_residual.ensures.1 in
    record { visits_goals = rw (p.1, p.2) (along_stop (Shown g.F.Fn c.args.visit.now) (goal_cell (means c.args.self.now.table) c.args.self.now.horizon) _ _ _ _ _ _ _ c.loop-f.invariant c.loop-f-test.true c.in_err-goal_clause.ensures.visits_goal) }
