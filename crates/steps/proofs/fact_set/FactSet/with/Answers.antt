use Rattle.std.proofs.Common.{◌-◌, ap, arith}
use lib.Bits.{bit_or}
use Rattle.std.proofs.lemmas.Nat.{one_shl}
use Rattle.steps.proofs.Masks.{with_has, with_outside}
use Rattle.steps.proofs.fact_set.FactSet.with.Goals as goal

pub returns-then-fact-lt1 : goal.returns-then-fact-lt1
returns-then-fact-lt1 c = record { adds_the_fact = with_outside c.args.self c.args.fact c.then-fact-lt1.either }

pub returns : goal.returns
returns c = record { adds_the_fact = with_has c.args.self c.args.fact (omega arith) (omega arith) _ (ap (bit_or c.args.self.bits) (one_shl (c.args.fact - 1) 64 (omega arith))) }
