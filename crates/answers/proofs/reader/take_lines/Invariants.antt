use Rattle.std.proofs.Common.{◌≡◌, length}
use Rattle.answers.specs.Following.{bind, lines_of, mark, follow, answer_of}
use Rattle.answers.proofs.reader.take_lines.Given as goal

abbrev pub invariant-loop-line : goal.invariant-loop-line
invariant-loop-line l = answer_of (length l.initial.truth) mark l.initial.truth l.text ≡ bind (lines_of l.left) (follow (length l.initial.truth) mark l.stage l.truth)

abbrev pub decreases-loop-line : goal.decreases-loop-line
decreases-loop-line l = length l.left
