use Rattle.std.proofs.Common.{◌∙◌, arith}
use Rattle.lines.proofs.Digits.{too_large}
use Rattle.lines.proofs.words.read_size.Goals as goal

pub returns-in_err-checked_mul : goal.returns-in_err-checked_mul
returns-in_err-checked_mul c = record { reads_size = c.from_residual.ensures ∙ too_large c.args.most c.args.digits.now c.loop-b.n c.loop-b.b-index c.loop-b.invariant (omega arith) (let h = c.in_err-checked_mul.ensures in omega arith) }

pub returns-in_err-n : goal.returns-in_err-n
returns-in_err-n c = record { reads_size = c.from_residual-in_err-n.ensures ∙ too_large c.args.most c.args.digits.now c.loop-b.n c.loop-b.b-index c.loop-b.invariant (omega arith) (let h = c.in_err-n.ensures in let k = c.in_ok-checked_mul.ensures in omega arith) }

pub returns-then-n-most : goal.returns-then-n-most
returns-then-n-most c = record { reads_size = too_large c.args.most c.args.digits.now c.loop-b.n c.loop-b.b-index c.loop-b.invariant (omega arith) (omega arith) }
