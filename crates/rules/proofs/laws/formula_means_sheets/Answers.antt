use Rattle.rules.proofs.Models.{formula_means_sheets_lem}
use Rattle.rules.proofs.laws.formula_means_sheets.Goals as goal

pub returns : goal.returns
returns c = record { models_are_sheets = formula_means_sheets_lem }
