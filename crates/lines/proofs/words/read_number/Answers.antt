use Rattle.std.proofs.Common.{sym, subst, arith}
use Rattle.lines.specs.Reading.{ReadsWord}
use Rattle.lines.proofs.Digits.{minus_none, minus_zero, minus_some}
use Rattle.lines.proofs.words.read_number.Goals as goal

pub returns-in_err-size-in-45 : goal.returns-in_err-size-in-45
returns-in_err-size-in-45 c = record { reads_number = subst (ReadsWord c.args.most c.args.word.now) (sym c.from_residual.ensures) (minus_none c.args.most c.args.word.now (omega arith) c.in_err-size-in-45.ensures.reads_size) }

pub returns-then-size-eq0 : goal.returns-then-size-eq0
returns-then-size-eq0 c = record { reads_number = minus_zero c.args.most c.args.word.now (omega arith) c.in_ok-size-in-45.size c.if-size-eq0.true c.in_ok-size-in-45.ensures.reads_size }

pub returns-else-size-eq0 : goal.returns-else-size-eq0
returns-else-size-eq0 c = record { reads_number = minus_some c.args.most c.args.word.now (omega arith) c.in_ok-size-in-45.size (omega arith) c.in_ok-size-in-45.ensures.reads_size }
