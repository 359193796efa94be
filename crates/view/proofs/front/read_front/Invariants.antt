use Rattle.std.proofs.Common.{ℕ, List, length}
use Rattle.view.specs.Format.{Headed}
use Rattle.view.proofs.front.read_front.Given as goal

abbrev pub invariant-loop-line : goal.invariant-loop-line
invariant-loop-line l = ((v c : ℕ) (body : List ℕ) → Headed l.text v c body → Headed l.left v c body) × ((v c : ℕ) (body : List ℕ) → Headed l.left v c body → Headed l.text v c body)

abbrev pub decreases-loop-line : goal.decreases-loop-line
decreases-loop-line l = length l.left
