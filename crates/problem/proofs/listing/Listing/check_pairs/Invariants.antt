use Rattle.std.proofs.Common.{◌≡◌}
use Rattle.problem.specs.Verdict.{scan}
use Rattle.problem.proofs.listing.Listing.check_pairs.Given as goal

abbrev pub invariant-loop-i : goal.invariant-loop-i
invariant-loop-i l = scan l.self.bytes.now l.i ≡ 0
