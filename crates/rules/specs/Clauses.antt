-- Literals, clauses and models.
use Rattle.std.specs.Prelude.{◌≡◌, ℕ, suc, ◌+◌, ◌-◌, Bool, true, false, not, ◌||◌, List, [], ◌∷◌, length, ℤ, pos, negsuc, neg_ℤ, ◌==◌, nat_lt, slice_index_or, unsigned_abs}
use Rattle.std.specs.List.{AllByRecursion}
use Rattle.rules.specs.Lists.{any}

-- a list of literals, of which one at least must be true; a literal is a variable or its negative, never 0
abbrev pub Clause : Type 0
Clause = List ℤ

-- variable v, and its negative
abbrev pub aye : ℕ → ℤ
aye v = pos v

abbrev pub nay : ℕ → ℤ
nay v = neg_ℤ (pos v)

-- a truth value for each variable
abbrev pub Valuation : Type 0
Valuation = ℕ → Bool

abbrev pub says : Valuation → ℤ → Bool
says w (pos v) = w v
says w (negsuc v) = not (w (suc v))

-- the clause has a true literal
abbrev pub Meets : Valuation → Clause → Type 0
Meets w c = any (says w) c ≡ true

abbrev pub Satisfies : Valuation → List Clause → Type 0
Satisfies w cs = AllByRecursion (Meets w) cs

-- the valuation that a list of truth values is: variable v is at place v - 1
abbrev pub value : List Bool → Valuation
value vs v = slice_index_or vs (v - 1) false

-- a model: a truth value for each of the variables 1 to `vars` that gives every clause a true literal
pub record Model (vars : ℕ) (cs : List Clause) (vs : List Bool) : Type 0 where
  pub long : length vs ≡ vars
  pub meets : Satisfies (value vs) cs

-- the sum of what each clause weighs
abbrev pub total : (Clause → ℕ) → List Clause → ℕ
total weight [] = 0
total weight (c ∷ cs) = weight c + total weight cs

-- how many literals the clauses have
abbrev pub literals : List Clause → ℕ
literals cs = total length cs

-- a literal that no clause with this widest variable may have: 0, or one beyond the widest
abbrev pub bad_literal : ℕ → ℤ → Bool
bad_literal widest l = unsigned_abs l == 0 || nat_lt widest (unsigned_abs l)

-- a clause that is never taken: over 130 literals, or a literal 0 or beyond the widest
abbrev pub bad_clause : ℕ → Clause → Bool
bad_clause widest c = nat_lt 130 (length c) || any (bad_literal widest) c
