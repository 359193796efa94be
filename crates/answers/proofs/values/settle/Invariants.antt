use Rattle.std.proofs.Common.{◌≡◌, ◌%◌, ◌++◌, map, take, drop}
use Rattle.answers.proofs.values.settle.Given as goal

abbrev pub invariant-loop-b : goal.invariant-loop-b
invariant-loop-b l = l.truth ≡ map (λ b. b % 2) (take l.b-index l.initial.truth) ++ drop l.b-index l.initial.truth
