use Rattle.std.proofs.Common.{subst}
use Rattle.problem.specs.Collected.{Collects}
use Rattle.problem.proofs.Stated.{stated}
use Rattle.problem.proofs.table.StepTable.read.Goals as goal

pub returns : goal.returns
returns c =
    let s = c.args.listing.now.bytes.now in
    let sized = c.args.listing.now.sized in
    record { states_the_problem = stated s c.collect.result c.requires.lawful (subst (Collects s c.collect.result) sized.is_pairs c.collect.ensures.collects_pairs) _ _ sized.is_facts sized.is_steps }
