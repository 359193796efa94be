use Rattle.std.proofs.Common.{◌+◌}
use Rattle.problem.specs.Tables.{means}
use Rattle.formula.specs.Effects.{effect_row, effect_clauses}
use Rattle.formula.specs.Visits.{Shown}
use Rattle.formula.proofs.Visiting.{Along}
use Rattle.formula.proofs.slots.Slot.each_effect.Given as goal

abbrev pub invariant-loop-a : goal.invariant-loop-a
invariant-loop-a g l = Along (Shown g.F.Fn l.visit) (effect_row (means l.self.table.now) l.part l.self.before) l.initial.state (effect_clauses (means l.self.table.now) l.part l.self.before) l.state l.a (l.self.table.now.steps + 1)
