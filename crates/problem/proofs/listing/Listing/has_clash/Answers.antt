use Rattle.std.proofs.Common.{◌≡◌, ◌+◌, ◌≤◌, refl, ◌∙◌, arith, rules, tests}
use Rattle.std.specs.List.{range_with_len, list_any}
use Rattle.std.proofs.lemmas.Iterator.{YieldsList-from_range}
use Rattle.std.proofs.lemmas.Iterator.Search.{any_from_yields_List}
use Rattle.problem.specs.Bytes.{facts}
use Rattle.problem.proofs.Collecting.{meeting, meeting_clashes}
use Rattle.problem.proofs.listing.Listing.has_clash.Goals as goal

pub returns : goal.returns
returns c =
    let sets = c.collect-sets.result in
    let listing = c.args.self.now in
    let n = listing.steps in
    let few : facts listing.bytes.now ≤ 64 = omega (arith, listing.sized.is_facts, listing.sized.few_facts) in
    let found : c.any.result ≡ list_any (meeting sets) (range_with_len 1 n) = any_from_yields_List (meeting sets) _ _ _ c.any.ensures.ran (YieldsList-from_range 1 (n + 1) n refl (omega arith)) (λ x b q k. search (rules, tests)) in
    record { answers_clash = found ∙ meeting_clashes _ sets listing.pairs listing.sized.is_pairs few c.requires.scanned c.collect-sets.ensures.collects_pairs 1 n (omega (arith, listing.sized.few_steps)) }
