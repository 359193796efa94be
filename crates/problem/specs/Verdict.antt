-- Which rule the bytes of a problem break first. Total on every list.
use Rattle.std.specs.Prelude.{ℕ, zero, suc, ◌+◌, ◌-◌, ◌*◌, ◌%◌, Bool, cond, not, ◌&&◌, ◌||◌, List, length, ◌==◌, nat_le, nat_lt}
use Rattle.std.specs.List.{range_with_len}
use Rattle.rules.specs.Lists.{any, shares}
use Rattle.problem.specs.Bytes.{facts, steps, pairs, code, fact}
use Rattle.problem.specs.Listed.{listed}

-- F is from 1 to 64, A at most 128 and P at most 4,096
abbrev pub headed : List ℕ → Bool
headed s = (nat_le 1 (facts s) && nat_le (facts s) 64) && (nat_le (steps s) 128 && nat_le (pairs s) 4096)

-- pair i has a known code, of a step that there is, and a fact that there is
abbrev pub known : List ℕ → ℕ → Bool
known s i = not (code s i == 2) && (nat_le (code s i) (4 * steps s + 2) && (not (code s i % 4 == 3) && (nat_le 1 (fact s i) && nat_le (fact s i) (facts s))))

-- one pair is below another: by code, then by fact
abbrev pub below : ℕ → ℕ → ℕ → ℕ → Bool
below c f d g = nat_lt c d || (c == d && nat_lt f g)

-- pair i is above the one before it
abbrev pub rises : List ℕ → ℕ → Bool
rises s i = i == 0 || below (code s (i - 1)) (fact s (i - 1)) (code s i) (fact s i)

abbrev pub pair_verdict : List ℕ → ℕ → ℕ
pair_verdict s i = cond (known s i) (cond (rises s i) 0 5) 4

-- the first refusal among the first n pairs
abbrev pub scan : List ℕ → ℕ → ℕ
scan s zero = 0
scan s (suc n) = cond (scan s n == 0) (pair_verdict s n) (scan s n)

-- step a sets and clears one fact
abbrev pub clashes : List ℕ → ℕ → Bool
clashes s a = shares (listed s (4 * a + 1)) (listed s (4 * a + 2))

-- 0 where the bytes are a problem, and else the number of the first rule that they break
abbrev pub verdict : List ℕ → ℕ
verdict s =
    cond (nat_lt (length s) 6) 1
    (cond (not (headed s)) 2
    (cond (not (length s == 6 + 4 * pairs s)) 3
    (cond (not (scan s (pairs s) == 0)) (scan s (pairs s))
    (cond (any (clashes s) (range_with_len 1 (steps s))) 6 0))))
