use Rattle.std.proofs.Common.{List, ℕ}
use Rattle.std.specs.Fn.{FnReturnsAt}
use Rattle.std.specs.Io.KnownBytes.{Appends}
use Rattle.feeding.specs.Records.{ReturnsBytes}
use Rattle.feeding.proofs.FirstCases.{CarriesCases}
use Rattle.feeding.proofs.cases.answer_first_cases.Given as goal

abbrev pub invariant-loop-number : goal.invariant-loop-number
invariant-loop-number g l =
    goal.F-IsAlwaysCallable g l.call
    × (done : List ℕ)
    × Appends (g.W.Write.contents l.initial.output) (g.W.Write.contents l.output) done
    × CarriesCases (ReturnsBytes (FnReturnsAt g.F.Fn l.call)) l.initial.left l.number l.left done
