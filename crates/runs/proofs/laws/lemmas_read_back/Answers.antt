use Rattle.runs.proofs.Storing.{lemmas_read_back_lem}
use Rattle.runs.proofs.laws.lemmas_read_back.Goals as goal

pub returns : goal.returns
returns c = record { memory_tells_the_lemmas = lemmas_read_back_lem }
