use Rattle.std.proofs.Common.{take}
use Rattle.assigning.specs.Slots.{Marks}
use Rattle.assigning.proofs.lines.SheetLines.mark.Given as goal

abbrev pub invariant-loop-l : goal.invariant-loop-l
invariant-loop-l l = Marks (take l.l-index l.self.lines.now) l.marks
