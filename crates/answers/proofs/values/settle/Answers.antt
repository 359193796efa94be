use Rattle.std.proofs.Common.{◌%◌, arith}
use Rattle.std.proofs.lemmas.List.Edits.{map_over_more}
use Rattle.std.proofs.lemmas.List.{get_or_default}
use Rattle.answers.proofs.values.settle.Goals as goal

pub loop-b-preserved : goal.loop-b-preserved
loop-b-preserved c = map_over_more (λ b. b % 2) c.args.truth.now c.loop-b.truth c.loop-b.b-index _ (omega arith) c.loop-b.invariant (get_or_default c.loop-b.truth c.loop-b.b-index 0 _ (omega arith))
