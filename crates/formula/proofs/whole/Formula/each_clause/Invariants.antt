use Rattle.std.proofs.Common.{◌+◌}
use Rattle.problem.specs.Tables.{means}
use Rattle.std.specs.List.{range_with_len}
use Rattle.rules.specs.Lists.{each}
use Rattle.rules.specs.Formula.{slot_clauses}
use Rattle.formula.specs.Visits.{Shown}
use Rattle.formula.proofs.Visiting.{Along}
use Rattle.formula.proofs.whole.Formula.each_clause.Given as goal

abbrev pub invariant-loop-u : goal.invariant-loop-u
invariant-loop-u g l = Along (Shown g.F.Fn l.visit) (slot_clauses (means l.self.table) (g.R.SlotRule.parts l.self.rule.now)) l.initial.state (each (slot_clauses (means l.self.table) (g.R.SlotRule.parts l.self.rule.now)) (range_with_len 0 l.self.horizon)) l.state l.u l.self.horizon
