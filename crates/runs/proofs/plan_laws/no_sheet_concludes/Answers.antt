use Rattle.runs.proofs.Refuting.{no_sheet_concludes_lem}
use Rattle.runs.proofs.plan_laws.no_sheet_concludes.Goals as goal

pub returns : goal.returns
returns c = record { some_run_concludes = no_sheet_concludes_lem }
