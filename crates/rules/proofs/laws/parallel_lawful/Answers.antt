use Rattle.rules.proofs.Rules.{parallel_lawful_lem}
use Rattle.rules.proofs.laws.parallel_lawful.Goals as goal

pub returns : goal.returns
returns c = record { parallel_keeps_the_law = parallel_lawful_lem }
