use Rattle.runs.proofs.Safety.{models_are_safe_lem}
use Rattle.runs.proofs.laws.models_are_safe.Goals as goal

pub returns : goal.returns
returns c = record { no_run_concludes = models_are_safe_lem }
