use Rattle.std.proofs.Common.{take, decimal}
use Rattle.text.proofs.Places.{PartlyFrom}
use Rattle.text.proofs.writing.put_literal.Given as goal

abbrev pub invariant-loop-i : goal.invariant-loop-i
invariant-loop-i l = PartlyFrom l.initial.bytes (decimal l.size) (take l.first l.initial.bytes) l.first l.count l.i l.left l.bytes
