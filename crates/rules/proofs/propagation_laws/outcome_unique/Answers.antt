use Rattle.rules.proofs.Outcomes.{outcome_unique_lem}
use Rattle.rules.proofs.propagation_laws.outcome_unique.Goals as goal

pub returns : goal.returns
returns c = record { propagation_has_one_outcome = outcome_unique_lem }
