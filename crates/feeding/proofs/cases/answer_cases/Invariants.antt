use Rattle.std.proofs.Common.{List, ℕ, ◌+◌, ◌≤◌, length}
use Rattle.std.specs.Fn.{FnReturnsAt}
use Rattle.std.specs.Io.KnownBytes.{Appends}
use Rattle.feeding.specs.Records.{ReturnsBytes}
use Rattle.feeding.proofs.Records.{Carries}
use Rattle.feeding.proofs.cases.answer_cases.Given as goal

abbrev pub invariant-loop-record : goal.invariant-loop-record
invariant-loop-record g l =
    goal.F-IsAlwaysCallable g l.call
    × (l.number + length l.left ≤ length l.initial.left + 1)
    × (done : List ℕ)
    × Appends (g.W.Write.contents l.initial.output) (g.W.Write.contents l.output) done
    × Carries (ReturnsBytes (FnReturnsAt g.F.Fn l.call)) l.initial.left l.number l.left done

abbrev pub decreases-loop-record : goal.decreases-loop-record
decreases-loop-record g l = length l.left
