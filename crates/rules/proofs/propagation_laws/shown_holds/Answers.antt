use Rattle.rules.proofs.Entailment.{shown_holds_lem}
use Rattle.rules.proofs.propagation_laws.shown_holds.Goals as goal

pub returns : goal.returns
returns c = record { propagation_is_sound = shown_holds_lem }
