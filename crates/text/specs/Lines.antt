-- Clauses as lines of text: each literal in decimal and a space, then `0` and a line feed.
use Rattle.std.specs.Prelude.{ℕ, cond, List, [], ◌∷◌, ◌++◌, length, ℤ}
use Rattle.std.specs.Fmt.{signed_decimal}
use Rattle.rules.specs.Lists.{each}
use Rattle.rules.specs.Clauses.{Clause, bad_clause}

abbrev pub literal_text : ℤ → List ℕ
literal_text l = signed_decimal l ++ (32 ∷ [])

abbrev pub line_text : Clause → List ℕ
line_text c = each literal_text c ++ (48 ∷ 10 ∷ [])

abbrev pub lines_text : List Clause → List ℕ
lines_text cs = each line_text cs

-- the bytes of its line; nothing for a clause that is never taken
abbrev pub text_cost : Clause → ℕ
text_cost c = cond (bad_clause 999999 c) 0 (length (line_text c))
