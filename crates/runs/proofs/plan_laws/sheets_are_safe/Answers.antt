use Rattle.runs.proofs.Refuting.{sheets_are_safe_lem}
use Rattle.runs.proofs.plan_laws.sheets_are_safe.Goals as goal

pub returns : goal.returns
returns c = record { no_run_concludes = sheets_are_safe_lem }
