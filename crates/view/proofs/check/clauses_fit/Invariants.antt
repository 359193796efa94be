use Rattle.std.proofs.Common.{◌≡◌, ◌+◌, ◌≤◌, length}
use Rattle.view.specs.Body.{completes}
use Rattle.view.specs.Words.{words_of}
use Rattle.view.proofs.check.clauses_fit.Given as goal

abbrev pub invariant-loop-word : goal.invariant-loop-word
invariant-loop-word l = (l.closed + length l.left ≤ length l.body) × (l.long ≤ 130) × (completes l.variables l.clauses 0 0 (words_of l.body) ≡ completes l.variables l.clauses l.closed l.long (words_of l.left))

abbrev pub decreases-loop-word : goal.decreases-loop-word
decreases-loop-word l = length l.left
