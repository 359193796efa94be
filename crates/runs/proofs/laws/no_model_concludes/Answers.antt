use Rattle.runs.proofs.Concluding.{no_model_concludes_lem}
use Rattle.runs.proofs.laws.no_model_concludes.Goals as goal

pub returns : goal.returns
returns c = record { some_run_concludes = no_model_concludes_lem }
