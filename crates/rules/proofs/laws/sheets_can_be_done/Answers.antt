use Rattle.rules.proofs.Serial.{sheets_can_be_done_lem}
use Rattle.rules.proofs.laws.sheets_can_be_done.Goals as goal

pub returns : goal.returns
returns c = record { sheets_are_plans = sheets_can_be_done_lem }
