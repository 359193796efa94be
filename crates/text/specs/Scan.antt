-- The numbers that a text has, read from the left. Every list of bytes has some: what stands after the last blank is none.
use Rattle.std.specs.Prelude.{ℕ, ◌+◌, ◌*◌, ◌%◌, Bool, true, false, cond, List, [], ◌∷◌, ℤ, pos, neg_ℤ, ◌==◌, nat_lt}

-- the size with one more digit; kept below 2^20, above all that is ever written
abbrev pub longer : ℕ → ℕ → ℕ
longer size b = (10 * size + b % 16) % 1048576

abbrev pub signed_by : Bool → ℕ → ℤ
signed_by minus size = cond minus (neg_ℤ (pos size)) (pos size)

-- the numbers from here on, in one of which a minus was seen or not, and this size; a space or a line feed ends a number
abbrev pub scan : Bool → ℕ → List ℕ → List ℤ
scan minus size [] = []
scan minus size (b ∷ bs) = cond (nat_lt b 33) (signed_by minus size ∷ scan false 0 bs) (cond (b == 45) (scan true size bs) (scan minus (longer size b) bs))

abbrev pub numbers : List ℕ → List ℤ
numbers bs = scan false 0 bs
