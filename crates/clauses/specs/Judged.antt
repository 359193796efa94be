-- When a sink grants a clause, and what it holds then.
use Rattle.std.specs.Prelude.{ℕ, cond, List, [], ◌∷◌, ◌++◌, drop, Ok, Err, Result, nat_lt}
use Rattle.rules.specs.declared.refusal.Refusal.{Refusal}
use Rattle.rules.specs.declared.refusal.Refusal.TheVariants.{BadClause, NoSpace}
use Rattle.rules.specs.Clauses.{Clause, bad_clause}

-- a bad clause is refused by 8, else one that costs more than the space left by 9
abbrev pub judged : ℕ → ℕ → ℕ → Clause → Result Unit Refusal
judged widest left price c = cond (bad_clause widest c) (Err BadClause) (cond (nat_lt left price) (Err NoSpace) (Ok tt))

-- granted, the clause stands last; refused, nothing changes
abbrev pub held_after : Result Unit Refusal → List Clause → Clause → List Clause
held_after (Ok u) cs c = cs ++ (c ∷ [])
held_after (Err e) cs c = cs

-- granted, the clause takes what it costs from the front of the free memory; the rest stays as it was
abbrev pub free_after : {X : Type 0} → Result Unit Refusal → ℕ → List X → List X
free_after (Ok u) price free = drop price free
free_after (Err e) price free = free
