use Rattle.problem.proofs.Lawful.{lawful_sound}
use Rattle.problem.proofs.laws.granted_is_sound.Goals as goal

pub returns : goal.returns
returns c = record { granted_problems_are_sound = lawful_sound }
