-- No refusal has the number of a grant.
use Rattle.std.proofs.Common.{◌≡◌, arith}
use Rattle.rules.specs.declared.refusal.Refusal.{Refusal}
use Rattle.rules.specs.declared.refusal.Refusal.TheVariants.{TooShort, HeadOutOfRange, WrongLength, UnknownPair, PairsNotRising, SetsAndClears, BadRequest, BadClause, NoSpace, SinkNotEmpty, TooManyVariables, NotClauseText, NotAnAnswer, BadTruthMemory, NotAModel, BadSheetLines, SheetDoesNotHold, NotAsNoted, BadLemma, NotShown, CutTooLong}
use Rattle.rules.specs.Refusals.{number}

pub refused : (e : Refusal) → number e ≡ 0 → ⊥
refused TooShort h = omega arith
refused HeadOutOfRange h = omega arith
refused WrongLength h = omega arith
refused UnknownPair h = omega arith
refused PairsNotRising h = omega arith
refused SetsAndClears h = omega arith
refused BadRequest h = omega arith
refused BadClause h = omega arith
refused NoSpace h = omega arith
refused SinkNotEmpty h = omega arith
refused TooManyVariables h = omega arith
refused NotClauseText h = omega arith
refused NotAnAnswer h = omega arith
refused BadTruthMemory h = omega arith
refused NotAModel h = omega arith
refused BadSheetLines h = omega arith
refused SheetDoesNotHold h = omega arith
refused NotAsNoted h = omega arith
refused BadLemma h = omega arith
refused NotShown h = omega arith
refused CutTooLong h = omega arith
