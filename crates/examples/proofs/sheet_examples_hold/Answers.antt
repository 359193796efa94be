use Rattle.examples.proofs.Rows.{sheet_examples_hold_lem}
use Rattle.examples.proofs.sheet_examples_hold.Goals as goal

pub returns : goal.returns
returns c = record { definitions_give_each_sheet = sheet_examples_hold_lem }
