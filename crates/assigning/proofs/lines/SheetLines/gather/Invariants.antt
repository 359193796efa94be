use Rattle.std.proofs.Common.{take}
use Rattle.problem.specs.Tables.{means}
use Rattle.assigning.specs.Slots.{Changes}
use Rattle.assigning.proofs.lines.SheetLines.gather.Given as goal

abbrev pub invariant-loop-l : goal.invariant-loop-l
invariant-loop-l l = Changes (means l.self.table.now) (take l.l-index l.self.lines.now) l.changes
