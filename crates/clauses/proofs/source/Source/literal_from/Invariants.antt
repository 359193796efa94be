use Rattle.std.proofs.Common.{◌≡◌, length}
use Rattle.clauses.specs.Asked.{first_literal}
use Rattle.clauses.specs.Rows.{flat}
use Rattle.clauses.proofs.source.Source.literal_from.Given as goal

abbrev pub invariant-loop-word : goal.invariant-loop-word
invariant-loop-word g l = first_literal (g.Self.Source.rest l.self l.from) l.k ≡ first_literal (g.Self.Source.rest l.self l.place) l.left

abbrev pub decreases-loop-word : goal.decreases-loop-word
decreases-loop-word g l = length (flat (g.Self.Source.rest l.self l.place))
