-- What reading a word gives.
use Rattle.std.specs.Prelude.{◌≡◌, ℕ, ◌<◌, ◌≤◌, true, cond, List, ℤ, pos, neg_ℤ, Some, None, Option}
use Rattle.lines.specs.declared.numeral.Numeral.{Numeral}
use Rattle.lines.specs.Numbers.{number_of}

-- the number that a sign and a size are
abbrev pub value : Numeral → ℤ
value n = cond n.minus (neg_ℤ (pos n.size)) (pos n.size)

-- the word is this number; its size is at most `most`, and 0 has no minus
pub record Reading (most : ℕ) (word : List ℕ) (n : Numeral) : Type 0 where
  pub is : number_of most word ≡ Some (value n)
  pub small : n.size ≤ most
  pub some : n.minus ≡ true → 0 < n.size

-- the number read, or nothing where the word is none
abbrev pub ReadsWord : ℕ → List ℕ → Option Numeral → Type 0
ReadsWord most word None = number_of most word ≡ None
ReadsWord most word (Some n) = Reading most word n
