use Rattle.runs.proofs.Answering.{one_answer_each_lem}
use Rattle.runs.proofs.laws.one_answer_each.Goals as goal

pub returns : goal.returns
returns c = record { answers_are_unique = one_answer_each_lem }
