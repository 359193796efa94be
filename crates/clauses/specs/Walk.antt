-- A walk over clauses, word by word: a literal at a time, and a 0 after each clause.
use Rattle.std.specs.Prelude.{◌≡◌, ℕ, zero, suc, Bool, true, false, List, [], ◌∷◌, ℤ, pos, negsuc, Some, None, Option}
use Rattle.rules.specs.Clauses.{Clause}
use Rattle.clauses.specs.Asked.{at0, at1}

-- the literal before the rest of its clause
abbrev pub onto : ℤ → List Clause → List Clause
onto l [] = []
onto l (c ∷ cs) = (l ∷ c) ∷ cs

abbrev pub some_clause : List Clause → Bool
some_clause [] = false
some_clause (c ∷ cs) = true

-- cs is ds with the word x before it; a 0 closes a clause
abbrev pub Word : ℤ → List Clause → List Clause → Type 0
Word (pos zero) cs ds = cs ≡ [] ∷ ds
Word (pos (suc n)) cs ds = (cs ≡ onto (pos (suc n)) ds) × (some_clause ds ≡ true)
Word (negsuc n) cs ds = (cs ≡ onto (negsuc n) ds) × (some_clause ds ≡ true)

-- what reading the next word of cs gives, where `rest` says what is left at a place
abbrev pub Reads : List Clause → (ℕ → List Clause) → Option (ℤ × ℕ) → Type 0
Reads cs rest None = cs ≡ []
Reads cs rest (Some p) = Word p.0 cs (rest p.1)

-- what asking where clause n begins gives, counted from 1, where `rest` says what is left at a place
abbrev pub Begins : List Clause → (ℕ → List Clause) → ℕ → Option ℕ → Type 0
Begins cs rest n None = at1 cs n ≡ None
Begins cs rest n (Some place) = at1 cs n ≡ at0 (rest place) 0
