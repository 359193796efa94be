use Rattle.std.proofs.Common.{◌≡◌, length, take}
use Rattle.clauses.proofs.words.taking.put_words.Given as goal

abbrev pub invariant-loop-i : goal.invariant-loop-i
invariant-loop-i l = (length l.words ≡ length l.clause) × (take l.i l.words ≡ take l.i l.clause)
