-- The number of each refusal, and of an answer: 0 is granted.
use Rattle.std.specs.Prelude.{ℕ, Ok, Err, Result}
use Rattle.rules.specs.declared.refusal.Refusal.{Refusal}
use Rattle.rules.specs.declared.refusal.Refusal.TheVariants.{TooShort, HeadOutOfRange, WrongLength, UnknownPair, PairsNotRising, SetsAndClears, BadRequest, BadClause, NoSpace, SinkNotEmpty, TooManyVariables, NotClauseText, NotAnAnswer, BadTruthMemory, NotAModel, BadSheetLines, SheetDoesNotHold, NotAsNoted, BadLemma, NotShown, CutTooLong}

abbrev pub number : Refusal → ℕ
number TooShort = 1
number HeadOutOfRange = 2
number WrongLength = 3
number UnknownPair = 4
number PairsNotRising = 5
number SetsAndClears = 6
number BadRequest = 7
number BadClause = 8
number NoSpace = 9
number SinkNotEmpty = 10
number TooManyVariables = 11
number NotClauseText = 12
number NotAnAnswer = 13
number BadTruthMemory = 14
number NotAModel = 15
number BadSheetLines = 16
number SheetDoesNotHold = 17
number NotAsNoted = 18
number BadLemma = 19
number NotShown = 20
number CutTooLong = 21

-- 0 where the call grants, else the number of its refusal
abbrev pub answer : {X : Type 0} → Result X Refusal → ℕ
answer (Ok _) = 0
answer (Err e) = number e
