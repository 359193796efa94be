-- A range of numbers, one step on and at its end.
use Rattle.std.proofs.Common.{◌≡◌, ℕ, suc, ◌+◌, ◌-◌, ◌<◌, ◌≤◌, [], ◌∷◌, ap, arith}
use Rattle.std.specs.List.{range_with_len}

pub counting_next : (i n : ℕ) → i < n → range_with_len i (n - i) ≡ i ∷ range_with_len (i + 1) (n - (i + 1))
counting_next i n h = let e : n - i ≡ suc (n - (i + 1)) = omega arith in ap (range_with_len i) e

pub counting_over : (i n : ℕ) → n ≤ i → range_with_len i (n - i) ≡ []
counting_over i n h = let e : n - i ≡ 0 = omega arith in ap (range_with_len i) e
