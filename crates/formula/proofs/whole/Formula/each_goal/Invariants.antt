use Rattle.std.proofs.Common.{◌+◌}
use Rattle.problem.specs.Tables.{means}
use Rattle.rules.specs.Formula.{goal_cell, goal_clauses}
use Rattle.formula.specs.Visits.{Shown}
use Rattle.formula.proofs.Visiting.{Along}
use Rattle.formula.proofs.whole.Formula.each_goal.Given as goal

abbrev pub invariant-loop-f : goal.invariant-loop-f
invariant-loop-f g l = Along (Shown g.F.Fn l.visit) (goal_cell (means l.self.table) l.self.horizon) l.initial.state (goal_clauses (means l.self.table) l.self.horizon) l.state l.f (l.self.table.facts + 1)
