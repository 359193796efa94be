use Rattle.std.proofs.Common.{map, ◌++◌, ap, ◌∙◌, rules}
use Rattle.rules.specs.Lists.{each}
use Rattle.problem.specs.Rendering.{two_bytes, Pair}
use Rattle.dash.specs.Listing.{dash_pairs}
use Rattle.dash.proofs.listing.problem_bytes.Goals as goal

pub returns : goal.returns
returns c =
    let head = c.in_ok-push_number-3.ensures.adds_two_bytes ∙ ap (λ t. t ++ two_bytes 37) (c.in_ok-push_number-2.ensures.adds_two_bytes ∙ ap (λ t. t ++ two_bytes 8) (c.in_ok-push_number.ensures.adds_two_bytes ∙ ap (λ t. t ++ two_bytes 9) c.new-bytes.ensures.items)) in
    let codes = c.in_ok-push_numbers.ensures.adds_each (λ p. p.0) (λ p n r. search rules) in
    let facts = c.in_ok-push_numbers-2.ensures.adds_each (λ p. p.1) (λ p n r. search rules) in
    record { renders_dash = facts ∙ ap (λ t. t ++ each two_bytes (map (λ (p : Pair). p.fact) dash_pairs)) (codes ∙ ap (λ t. t ++ each two_bytes (map (λ (p : Pair). p.code) dash_pairs)) head) }
