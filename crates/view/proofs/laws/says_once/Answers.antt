use Rattle.view.proofs.Sayings.{says_once_lem}
use Rattle.view.proofs.laws.says_once.Goals as goal

pub returns : goal.returns
returns c = record { texts_say_one_thing = says_once_lem }
