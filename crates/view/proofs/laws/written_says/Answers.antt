use Rattle.view.proofs.Sayings.{written_says_lem}
use Rattle.view.proofs.laws.written_says.Goals as goal

pub returns : goal.returns
returns c = record { written_clauses_are_said = written_says_lem }
