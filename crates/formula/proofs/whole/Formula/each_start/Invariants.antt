use Rattle.std.proofs.Common.{◌+◌}
use Rattle.problem.specs.Tables.{means}
use Rattle.rules.specs.Formula.{start_cell, start_clauses}
use Rattle.formula.specs.Visits.{Shown}
use Rattle.formula.proofs.Visiting.{Along}
use Rattle.formula.proofs.whole.Formula.each_start.Given as goal

abbrev pub invariant-loop-f : goal.invariant-loop-f
invariant-loop-f g l = Along (Shown g.F.Fn l.visit) (start_cell (means l.self.table)) l.initial.state (start_clauses (means l.self.table)) l.state l.f (l.self.table.facts + 1)
