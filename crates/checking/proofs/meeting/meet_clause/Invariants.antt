use Rattle.std.proofs.Common.{◌≡◌, drop}
use Rattle.rules.specs.Lists.{any}
use Rattle.rules.specs.Clauses.{says, value}
use Rattle.checking.specs.Told.{told}
use Rattle.checking.proofs.meeting.meet_clause.Given as goal

abbrev pub invariant-loop-l : goal.invariant-loop-l
invariant-loop-l l = any (says (value (told l.truth))) l.clause ≡ any (says (value (told l.truth))) (drop l.l-index l.clause)
