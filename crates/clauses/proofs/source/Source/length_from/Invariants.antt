use Rattle.std.proofs.Common.{◌≡◌, ◌^◌, length}
use Rattle.clauses.specs.Asked.{first_length}
use Rattle.clauses.specs.Rows.{flat}
use Rattle.clauses.proofs.Walks.{more, Passed}
use Rattle.clauses.proofs.source.Source.length_from.Given as goal

abbrev pub invariant-loop-word : goal.invariant-loop-word
invariant-loop-word g l =
    Passed (g.Self.Source.rest l.self) (2 ^ 64) (length (flat (g.Self.Source.rest l.self l.place))) l.length
    × (first_length (g.Self.Source.rest l.self l.from) ≡ more l.length (first_length (g.Self.Source.rest l.self l.place)))

abbrev pub decreases-loop-word : goal.decreases-loop-word
decreases-loop-word g l = length (flat (g.Self.Source.rest l.self l.place))
