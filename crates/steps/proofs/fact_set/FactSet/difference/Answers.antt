use Rattle.std.proofs.Common.{refl, rules}
use Rattle.steps.proofs.Masks.{difference_has}
use Rattle.steps.proofs.fact_set.FactSet.difference.Goals as goal

pub returns : goal.returns
returns c = record { drops_facts = difference_has c.args.self c.args.other _ (search rules) refl }
