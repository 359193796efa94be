use Rattle.std.proofs.Common.{◌≡◌, length}
use Rattle.clauses.specs.Asked.{at0, at1}
use Rattle.clauses.specs.Rows.{flat}
use Rattle.clauses.proofs.source.Source.clause_start.Given as goal

abbrev pub invariant-loop-left : goal.invariant-loop-left
invariant-loop-left g l = at1 (g.Self.Source.held l.self) l.n ≡ at0 (g.Self.Source.rest l.self l.place) l.left

abbrev pub decreases-loop-left : goal.decreases-loop-left
decreases-loop-left g l = length (flat (g.Self.Source.rest l.self l.place))
