-- Clauses as a row of words, a 0 after each.
use Rattle.std.specs.Prelude.{ℕ, zero, suc, ◌+◌, ◌*◌, ◌<◌, ◌≤◌, Bool, true, false, cond, List, [], ◌∷◌, ◌++◌, length, ℤ, pos, negsuc, Some}
use Rattle.std.proofs.Common.{arith}
use Rattle.std.proofs.lemmas.Bool.{cond_both}
use Rattle.rules.specs.Clauses.{Clause, bad_clause}
use Rattle.clauses.specs.Walk.{onto, Reads}

-- the words of the clauses
abbrev pub flat : List Clause → List ℤ
flat [] = []
flat (c ∷ cs) = c ++ (pos 0 ∷ flat cs)

-- the clauses that a row stands for; words after its last 0 stand for nothing
abbrev pub parse : List ℤ → List Clause
parse [] = []
parse (pos zero ∷ ws) = [] ∷ parse ws
parse (pos (suc n) ∷ ws) = onto (pos (suc n)) (parse ws)
parse (negsuc n ∷ ws) = onto (negsuc n) (parse ws)

abbrev pub is_zero : ℤ → Bool
is_zero (pos zero) = true
is_zero (pos (suc n)) = false
is_zero (negsuc n) = false

-- whether the last word is 0; b where there is no word
abbrev pub ends : Bool → List ℤ → Bool
ends b [] = b
ends b (w ∷ ws) = ends (is_zero w) ws

-- a word for each literal and one for the 0; nothing for a clause that is never taken
abbrev pub word_cost : Clause → ℕ
word_cost c = cond (bad_clause 4096 c) 0 (length c + 1)

pub word_cheap : (c : Clause) → word_cost c ≤ 8 * length c + 2
word_cheap c = cond_both (bad_clause 4096 c) 0 (length c + 1) (λ n. n ≤ 8 * length c + 2) (λ e. omega arith) (λ e. omega arith)

-- a walk ends: after each word that is read fewer words are left
abbrev pub WalkEnds : Type 0
WalkEnds = (cs : List Clause) (rest : ℕ → List Clause) (word : ℤ) (next : ℕ) → Reads cs rest (Some (word, next)) → length (flat (rest next)) < length (flat cs)
