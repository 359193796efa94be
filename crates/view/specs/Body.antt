-- The clauses that a body of text says.
use Rattle.std.specs.Prelude.{ℕ, zero, suc, ◌+◌, Bool, false, ◌&&◌, List, [], ◌∷◌, map, length, ℤ, pos, negsuc, Some, None, Option, ◌==◌, nat_lt}
use Rattle.rules.specs.Clauses.{Clause}
use Rattle.clauses.specs.Rows.{parse}
use Rattle.lines.specs.Numbers.{number_of}
use Rattle.view.specs.Words.{words_of}

-- the number, or 0 where there is none
abbrev pub or_zero : Option ℤ → ℤ
or_zero None = pos 0
or_zero (Some n) = n

-- the number that a word is; 0 for a word that is none
abbrev pub value_of : List ℕ → ℤ
value_of word = or_zero (number_of 999999 word)

-- the numbers that the words are
abbrev pub numbers : List ℕ → List ℤ
numbers text = map value_of (words_of text)

-- the clauses that the numbers are; a 0 closes each
abbrev pub clauses_of : List ℕ → List Clause
clauses_of body = parse (numbers body)

-- whether a word is `0`
abbrev pub is_nought : List ℕ → Bool
is_nought [] = false
is_nought (b ∷ bs) = b == 48 && length bs == 0

-- whether the last word is `0`; b where there is no word
abbrev pub shuts : Bool → List (List ℕ) → Bool
shuts b [] = b
shuts b (w ∷ ws) = shuts (is_nought w) ws

-- a word that is no number refuses, a 0 closes a clause, and else it is a literal
abbrev pub by_number : Option ℤ → Bool → Bool → Bool
by_number None closes goes = false
by_number (Some (pos zero)) closes goes = closes
by_number (Some (pos (suc n))) closes goes = goes
by_number (Some (negsuc n)) closes goes = goes

-- whether the words from here on complete `count` clauses over v variables, where so many are closed and the next is so long already
abbrev pub completes : ℕ → ℕ → ℕ → ℕ → List (List ℕ) → Bool
completes v count closed long [] = long == 0 && closed == count
completes v count closed long (w ∷ ws) = by_number (number_of v w) (completes v count (closed + 1) 0 ws) (nat_lt long 130 && completes v count closed (long + 1) ws)
