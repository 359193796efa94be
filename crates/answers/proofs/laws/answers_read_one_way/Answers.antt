use Rattle.answers.proofs.OneWay.{read_one_way}
use Rattle.answers.proofs.laws.answers_read_one_way.Goals as goal

pub returns : goal.returns
returns c = record { one_answer_a_text = read_one_way }
