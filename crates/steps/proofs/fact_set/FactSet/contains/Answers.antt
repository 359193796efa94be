use Rattle.std.proofs.Common.{sym, arith}
use Rattle.steps.proofs.Kept.{has_bit, no_bit_outside}
use Rattle.steps.proofs.fact_set.FactSet.contains.Goals as goal

pub returns-then-fact-lt1 : goal.returns-then-fact-lt1
returns-then-fact-lt1 c = record { answers_membership = sym (no_bit_outside c.args.self c.args.fact c.then-fact-lt1.either) }

pub returns : goal.returns
returns c = record { answers_membership = sym (has_bit c.args.self c.args.fact (omega arith) (omega arith)) }
