use Rattle.std.proofs.Common.{ap, ◌∙◌, arith}
use Rattle.rules.specs.Problems.{Problem, step}
use Rattle.problem.proofs.problem.Problem.step.Goals as goal

pub returns : goal.returns
returns c =
    record { answers_step = (omega arith, omega (arith, c.args.self.now.heads.1), c.step.ensures.answers_step ∙ ap (λ (p : Problem). step p c.args.a) c.table.ensures.states_the_problem) }
