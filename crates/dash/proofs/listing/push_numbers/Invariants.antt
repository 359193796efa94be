use Rattle.std.proofs.Common.{◌≡◌, ℕ, ◌++◌, map, take}
use Rattle.std.specs.Fn.{FnReturnsAt}
use Rattle.rules.specs.Lists.{each}
use Rattle.problem.specs.Rendering.{two_bytes}
use Rattle.dash.proofs.listing.push_numbers.Given as goal

abbrev pub invariant-loop-pair : goal.invariant-loop-pair
invariant-loop-pair g l =
    goal.F-IsAlwaysCallable g l.number
    × ((of : ℕ × ℕ → ℕ) → ((p : ℕ × ℕ) (n : ℕ) → FnReturnsAt g.F.Fn l.number p n → n ≡ of p) → l.bytes.items ≡ l.initial.bytes.items ++ each two_bytes (map of (take l.pair-index l.pairs)))
