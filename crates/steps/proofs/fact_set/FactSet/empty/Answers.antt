use Rattle.std.proofs.Common.{refl}
use Rattle.steps.specs.Sets.{facts_in}
use Rattle.steps.proofs.fact_set.FactSet.empty.Goals as goal

pub returns : goal.returns
unfolding facts_in
returns c = record { has_no_fact = refl }
