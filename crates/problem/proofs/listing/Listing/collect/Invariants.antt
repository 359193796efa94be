use Rattle.problem.specs.Collected.{Collects}
use Rattle.problem.proofs.listing.Listing.collect.Given as goal

abbrev pub invariant-loop-i : goal.invariant-loop-i
invariant-loop-i l = Collects l.self.bytes.now l.sets l.i
