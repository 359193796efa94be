use Rattle.std.proofs.Common.{rules}
use Rattle.steps.proofs.Masks.{meets_is}
use Rattle.steps.proofs.fact_set.FactSet.meets.Goals as goal

pub returns : goal.returns
returns c = record { answers_common_fact = meets_is c.args.self c.args.other (search rules) (search rules) }
