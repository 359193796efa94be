use Rattle.std.proofs.Common.{◌+◌}
use Rattle.problem.specs.Tables.{means}
use Rattle.formula.specs.Effects.{effect_cell, effect_row}
use Rattle.formula.specs.Visits.{Shown}
use Rattle.formula.proofs.Visiting.{Along}
use Rattle.formula.proofs.slots.Slot.effects_of.Given as goal

abbrev pub invariant-loop-f : goal.invariant-loop-f
invariant-loop-f g l = Along (Shown g.F.Fn l.visit) (effect_cell (means l.self.table.now) l.part l.self.before l.a) l.initial.state (effect_row (means l.self.table.now) l.part l.self.before l.a) l.state l.f (l.self.table.now.facts + 1)
