use Rattle.std.proofs.Common.{rules}
use Rattle.steps.proofs.Masks.{subset_is}
use Rattle.steps.proofs.fact_set.FactSet.is_subset.Goals as goal

pub returns : goal.returns
returns c = record { answers_inclusion = subset_is c.args.self c.args.other (search rules) (search rules) }
