-- What a source answers when it is asked by number. Clauses, and literals in a clause, count from 1.
use Rattle.std.specs.Prelude.{◌≡◌, ℕ, zero, suc, ◌≤◌, Bool, true, not, ◌&&◌, List, [], ◌∷◌, length, ℤ, Some, None, Option}
use Rattle.rules.specs.Lists.{any}
use Rattle.rules.specs.Clauses.{Clause, bad_literal}

-- the member at a place counted from 0; nothing past the end
abbrev pub at0 : {A : Type 0} → List A → ℕ → Option A
at0 [] n = None
at0 (x ∷ xs) zero = Some x
at0 (x ∷ xs) (suc n) = at0 xs n

-- the member at a number counted from 1; nothing at 0 and past the end
abbrev pub at1 : {A : Type 0} → List A → ℕ → Option A
at1 xs zero = None
at1 xs (suc n) = at0 xs n

abbrev pub length_of : Option Clause → Option ℕ
length_of None = None
length_of (Some c) = Some (length c)

abbrev pub literal_of : Option Clause → ℕ → Option ℤ
literal_of None k = None
literal_of (Some c) k = at1 c k

-- the length of clause n
abbrev pub length_at : List Clause → ℕ → Option ℕ
length_at cs n = length_of (at1 cs n)

-- literal k of clause n
abbrev pub literal_at : List Clause → ℕ → ℕ → Option ℤ
literal_at cs n k = literal_of (at1 cs n) k

-- the length of the first clause
abbrev pub first_length : List Clause → Option ℕ
first_length cs = length_of (at0 cs 0)

-- literal k of the first clause, counted from 0
abbrev pub first_literal : List Clause → ℕ → Option ℤ
first_literal cs k = literal_of (at0 cs 0) (suc k)

-- each literal's size is from 1 to the widest variable
abbrev pub sized : ℕ → List Clause → Bool
sized widest [] = true
sized widest (c ∷ cs) = not (any (bad_literal widest) c) && sized widest cs

-- what holds of every source: its widest variable is at most 999,999, and each literal's size is from 1 to it
pub record Bounded (widest : ℕ) (cs : List Clause) : Type 0 where
  pub narrow : widest ≤ 999999
  pub literals_in : sized widest cs ≡ true
