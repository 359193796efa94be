use Rattle.std.proofs.Common.{◌+◌, sym, ◌∙◌, arith}
use Rattle.std.proofs.lemmas.Result.{err_from_is_err_and}
use Rattle.problem.proofs.Scans.{scan_more, scan_stays}
use Rattle.problem.proofs.Refused.{refused}
use Rattle.problem.proofs.listing.Listing.check_pairs.Goals as goal

-- the refusal of pair i is that of the first i + 1 pairs, and stays
pub returns-in_err-check_pair : goal.returns-in_err-check_pair
returns-in_err-check_pair c =
    let s = c.args.self.now.bytes.now in
    let p = err_from_is_err_and c.from_residual.result c.from_residual.ensures.1 in
    let here = c.in_err-check_pair.ensures.first_broken ∙ sym (scan_more s c.loop-i.i c.loop-i.invariant) in
    record { first_broken = rw (p.1, p.2) (here ∙ sym (scan_stays s (c.loop-i.i + 1) c.args.self.now.pairs (omega arith) (λ z. refused _ (here ∙ z)))) }
