use Rattle.rules.proofs.Deciding.{shown_or_not_lem}
use Rattle.rules.proofs.propagation_laws.shown_or_not.Goals as goal

pub returns : goal.returns
returns c = record { propagation_decides = shown_or_not_lem }
