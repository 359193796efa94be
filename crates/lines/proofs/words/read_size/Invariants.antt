use Rattle.lines.proofs.Digits.{Left}
use Rattle.lines.proofs.words.read_size.Given as goal

abbrev pub invariant-loop-b : goal.invariant-loop-b
invariant-loop-b l = Left l.most l.digits l.n l.b-index
