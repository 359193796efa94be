use Rattle.runs.proofs.Keeping.{lists_hold_live_lemmas_lem}
use Rattle.runs.proofs.laws.lists_hold_live_lemmas.Goals as goal

pub returns : goal.returns
returns c = record { runs_tell_the_lemmas = lists_hold_live_lemmas_lem }
