use Rattle.clauses.proofs.Walks.{walk_ends_lem}
use Rattle.clauses.proofs.laws.walk_ends.Goals as goal

pub returns : goal.returns
returns c = record { leaves_fewer_words = walk_ends_lem }
