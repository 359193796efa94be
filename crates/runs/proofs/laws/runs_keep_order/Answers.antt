use Rattle.runs.proofs.Keeping.{runs_keep_order_lem}
use Rattle.runs.proofs.laws.runs_keep_order.Goals as goal

pub returns : goal.returns
returns c = record { memory_stays_in_order = runs_keep_order_lem }
