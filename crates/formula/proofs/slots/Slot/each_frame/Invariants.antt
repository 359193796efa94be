use Rattle.std.proofs.Common.{◌+◌}
use Rattle.problem.specs.Tables.{means}
use Rattle.rules.specs.Formula.{frame_cell, frame_clauses}
use Rattle.formula.specs.Visits.{Shown}
use Rattle.formula.proofs.Visiting.{Along}
use Rattle.formula.proofs.slots.Slot.each_frame.Given as goal

abbrev pub invariant-loop-f : goal.invariant-loop-f
invariant-loop-f g l = Along (Shown g.F.Fn l.visit) (frame_cell (means l.self.table.now) l.self.before) l.initial.state (frame_clauses (means l.self.table.now) l.self.before) l.state l.f (l.self.table.now.facts + 1)
