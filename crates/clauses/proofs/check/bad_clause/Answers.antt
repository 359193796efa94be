use Rattle.std.proofs.Common.{◌∙◌}
use Rattle.clauses.proofs.Granting.{bad_by_literals}
use Rattle.clauses.proofs.check.bad_clause.Goals as goal

pub returns-else-clause-gt-LONGEST : goal.returns-else-clause-gt-LONGEST
returns-else-clause-gt-LONGEST c = record { tells_bad_clause = c.some_bad.ensures.tells_some_bad ∙ bad_by_literals c.args.widest c.args.clause.now c.if-clause-gt-LONGEST.false }
