-- A text read number by number.
use Rattle.std.specs.Prelude.{◌≡◌, ℕ, ◌<◌, ◌≤◌, true, List, [], ◌∷◌, length, drop, ℤ, Some, None, Option}
use Rattle.clauses.specs.Rows.{ends}
use Rattle.text.specs.Scan.{numbers}

-- what the first number is, and how many bytes it takes with the blank that ends it
abbrev pub First : List ℕ → Option (ℤ × ℕ) → Type 0
First text None = numbers text ≡ []
First text (Some p) = (numbers text ≡ p.0 ∷ numbers (drop p.1 text)) × (0 < p.1) × (p.1 ≤ length text)

-- from each place on, the last word is the 0 of a clause
abbrev pub Shut : List ℕ → Type 0
Shut text = (p : ℕ) → ends true (numbers (drop p text)) ≡ true
