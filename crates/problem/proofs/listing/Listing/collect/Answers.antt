use Rattle.std.proofs.Common.{arith}
use Rattle.problem.proofs.Collecting.{collect_none, collect_more, known_pair}
use Rattle.problem.proofs.listing.Listing.collect.Goals as goal

pub bounds-sets-pair : goal.bounds-sets-pair
bounds-sets-pair c =
    let k = known_pair _ _ _ _ c.loop-i.i c.args.self.now.sized c.requires.scanned c.loop-i-test.true in
    omega (arith, k.0, c.pair-pair.ensures.has_code)

pub bounds-sets-pair-in-loop-i : goal.bounds-sets-pair-in-loop-i
bounds-sets-pair-in-loop-i c =
    let k = known_pair _ _ _ _ c.loop-i.i c.args.self.now.sized c.requires.scanned c.loop-i-test.true in
    omega (arith, k.0, c.pair-pair.ensures.has_code)

pub loop-i-init : goal.loop-i-init
loop-i-init c = collect_none c.args.self.now.bytes.now c.empty-sets.result c.empty-sets.ensures.has_no_fact

pub loop-i-preserved : goal.loop-i-preserved
loop-i-preserved c =
    let pair = c.pair-pair in
    let k = known_pair _ _ _ _ c.loop-i.i c.args.self.now.sized c.requires.scanned c.loop-i-test.true in
    collect_more _ c.loop-i.sets c.loop-i.i pair.result.code pair.result.fact c.with.result _ c.loop-i.invariant pair.ensures.has_code pair.ensures.has_fact
    (omega (arith, k.0, pair.ensures.has_code)) (omega (arith, k.1, pair.ensures.has_fact)) (omega (arith, k.2, pair.ensures.has_fact)) c.with.ensures.adds_the_fact
