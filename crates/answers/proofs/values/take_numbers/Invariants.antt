use Rattle.std.proofs.Common.{◌≡◌, length}
use Rattle.answers.specs.Following.{first_word, later_words, take_words, mark}
use Rattle.answers.proofs.values.take_numbers.Given as goal

abbrev pub invariant-loop-word : goal.invariant-loop-word
invariant-loop-word l = take_words (length l.initial.truth) mark l.initial.truth (first_word l.numbers) (later_words l.numbers) ≡ take_words (length l.initial.truth) mark l.truth (first_word l.left) (later_words l.left)

abbrev pub decreases-loop-word : goal.decreases-loop-word
decreases-loop-word l = length l.left
