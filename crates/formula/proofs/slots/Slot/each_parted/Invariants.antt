use Rattle.std.proofs.Common.{◌+◌}
use Rattle.problem.specs.Tables.{means}
use Rattle.rules.specs.Formula.{parted_clauses}
use Rattle.formula.specs.Rows.{parted_row}
use Rattle.formula.specs.Visits.{Shown}
use Rattle.formula.proofs.Visiting.{Along}
use Rattle.formula.proofs.slots.Slot.each_parted.Given as goal

abbrev pub invariant-loop-a : goal.invariant-loop-a
invariant-loop-a g l = Along (Shown g.F.Fn l.visit) (parted_row (means l.self.table.now) (g.R.SlotRule.parts l.rule) l.self.before) l.initial.state (parted_clauses (means l.self.table.now) (g.R.SlotRule.parts l.rule) l.self.before) l.state l.a (l.self.table.now.steps + 1)
