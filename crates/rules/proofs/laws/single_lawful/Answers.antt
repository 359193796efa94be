use Rattle.rules.proofs.Rules.{single_lawful_lem}
use Rattle.rules.proofs.laws.single_lawful.Goals as goal

pub returns : goal.returns
returns c = record { single_keeps_the_law = single_lawful_lem }
