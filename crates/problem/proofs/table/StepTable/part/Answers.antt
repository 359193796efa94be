use Rattle.std.proofs.Common.{◌∙◌}
use Rattle.problem.proofs.Unders.{no_part}
use Rattle.problem.proofs.table.StepTable.part.Goals as goal

pub returns-then-a-gt128 : goal.returns-then-a-gt128
returns-then-a-gt128 c = record { answers_set = c.empty.ensures.has_no_fact ∙ no_part c.args.self.now c.args.a c.if-a-gt128.true c.args.part }
