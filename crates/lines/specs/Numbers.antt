-- A number as a word of text: digits, and a minus before them for a number below 0. No plus, no zero in front, no -0.
use Rattle.std.specs.Prelude.{◌≡◌, ℕ, zero, suc, ◌+◌, ◌-◌, ◌*◌, ◌^◌, ◌<◌, ◌≤◌, Bool, cond, not, ◌&&◌, List, [], ◌∷◌, length, ℤ, pos, negsuc, Some, None, Option, ◌==◌, nat_le, nat_lt, slice_index, unsigned_abs}
use Rattle.std.specs.Fmt.{signed_decimal}
use Rattle.std.specs.Str.{all_ascii_digits}

-- the number that digits write after the number n
abbrev pub read_on : ℕ → List ℕ → ℕ
read_on n [] = n
read_on n (b ∷ bs) = read_on (10 * n + (b - 48)) bs

-- digits, at least one, with no zero in front of another
abbrev pub plain : List ℕ → Bool
plain ds = (nat_lt 0 (length ds) && not (slice_index ds 0 == 48 && nat_lt 1 (length ds))) && all_ascii_digits ds

-- the number that plain digits write, if it is at most `most`
abbrev pub size_of : ℕ → List ℕ → Option ℕ
size_of most ds = cond (plain ds && nat_le (read_on 0 ds) most) (Some (read_on 0 ds)) None

abbrev pub below_0 : Option ℕ → Option ℤ
below_0 None = None
below_0 (Some zero) = None
below_0 (Some (suc n)) = Some (negsuc n)

abbrev pub from_0 : Option ℕ → Option ℤ
from_0 None = None
from_0 (Some n) = Some (pos n)

-- the number that a word is, if its size is at most `most`
abbrev pub number_of : ℕ → List ℕ → Option ℤ
number_of most [] = None
number_of most (b ∷ bs) = cond (b == 45) (below_0 (size_of most bs)) (from_0 (size_of most (b ∷ bs)))

-- a word is read as a number exactly where it is that number as it is written, and not too large
pub record WordsAreNumbers : Type 0 where
  pub written : (most : ℕ) (word : List ℕ) (n : ℤ) → most < 2 ^ 64 → number_of most word ≡ Some n → (word ≡ signed_decimal n) × (unsigned_abs n ≤ most)
  pub read_back : (most : ℕ) (n : ℤ) → most < 2 ^ 64 → unsigned_abs n ≤ most → number_of most (signed_decimal n) ≡ Some n
