use Rattle.runs.proofs.Bounding.{counts_within_variables_lem}
use Rattle.runs.proofs.laws.counts_within_variables.Goals as goal

pub returns : goal.returns
returns c = record { counts_are_bounded = counts_within_variables_lem }
