use Rattle.std.proofs.Common.{◌++◌}
use Rattle.rules.specs.Problems.{steps_of}
use Rattle.problem.specs.Tables.{means}
use Rattle.formula.specs.Effects.{doers}
use Rattle.formula.proofs.Frames.{Explains}
use Rattle.formula.proofs.slots.Slot.frame_clause.Given as goal

abbrev pub invariant-loop-a : goal.invariant-loop-a
invariant-loop-a g l = Explains (means l.self.table.now) l.part l.self.before l.f (l.initial.clause.items ++ doers (means l.self.table.now) l.part l.self.before l.f (steps_of (means l.self.table.now))) l.clause.items l.a
