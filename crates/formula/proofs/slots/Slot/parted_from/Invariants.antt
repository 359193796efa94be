use Rattle.std.proofs.Common.{◌+◌}
use Rattle.problem.specs.Tables.{means}
use Rattle.rules.specs.Formula.{parted_cell}
use Rattle.formula.specs.Rows.{parted_row}
use Rattle.formula.specs.Visits.{Shown}
use Rattle.formula.proofs.Visiting.{Along}
use Rattle.formula.proofs.slots.Slot.parted_from.Given as goal

abbrev pub invariant-loop-b : goal.invariant-loop-b
invariant-loop-b g l = Along (Shown g.F.Fn l.visit) (parted_cell (means l.self.table.now) (g.R.SlotRule.parts l.rule) l.self.before l.a) l.initial.state (parted_row (means l.self.table.now) (g.R.SlotRule.parts l.rule) l.self.before l.a) l.state l.b (l.self.table.now.steps + 1)
