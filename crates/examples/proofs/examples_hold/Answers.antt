use Rattle.examples.proofs.Rows.{examples_hold_lem}
use Rattle.examples.proofs.examples_hold.Goals as goal

pub returns : goal.returns
returns c = record { definitions_give_each_row = examples_hold_lem }
