use Rattle.std.proofs.Common.{refl}
use Rattle.steps.proofs.Masks.{union_has}
use Rattle.steps.proofs.fact_set.FactSet.union.Goals as goal

pub returns : goal.returns
returns c = record { joins_facts = union_has c.args.self c.args.other _ refl }
