-- When encode grants, and what the clauses that it leaves in the sink mean.
use Rattle.std.specs.Prelude.{ℕ, List, [], ◌∷◌, length, drop, Ok, Err, Result, ◌==◌, nat_le}
use Rattle.rules.specs.declared.line.Line.{Line}
use Rattle.rules.specs.Checks.{Checks}
use Rattle.rules.specs.Steps.{Rule}
use Rattle.rules.specs.Problems.{Problem}
use Rattle.rules.specs.Clauses.{Clause, total}
use Rattle.rules.specs.Formula.{vars, formula}
use Rattle.rules.specs.Sheets.{Holds, slot}
use Rattle.rules.specs.Laws.{ModelsAreSheets, OrderOf, CanBeDone}

-- T at most 32, an empty sink, V at most its widest variable, and space for the whole formula
abbrev pub encode_checks : Problem → Rule → ℕ → List Clause → ℕ → ℕ → (Clause → ℕ) → Checks
encode_checks p rule horizon held widest left cost =
    (7, nat_le horizon 32)
    ∷ (10, (length held == 0))
    ∷ (11, nat_le (vars p horizon) widest)
    ∷ (9, nat_le (total cost (formula p rule horizon)) left)
    ∷ []

-- granted, the sink holds the formula and no more; refused, what it held
abbrev pub held_then : {E : Type 0} → Result Unit E → List Clause → List Clause → List Clause
held_then (Ok u) before all = all
held_then (Err e) before all = before

-- granted, the formula takes its cost from the front of the free memory; the rest stays as it was
abbrev pub free_then : {X E : Type 0} → Result Unit E → List X → ℕ → List X
free_then (Ok u) before cost = drop cost before
free_then (Err e) before cost = before

-- what the formula's clauses mean: their models are exactly the models of the sheets that hold, one for each, and each such sheet can be carried out, whatever the order inside its slots
pub record MeansSheets (p : Problem) (rule : Rule) (horizon : ℕ) : Type 0 where
  pub models : ModelsAreSheets p rule horizon
  pub plans : (lines : List Line) → Holds p rule horizon lines → (orders : ℕ → List ℕ) → ((t : ℕ) → OrderOf (slot lines t) (orders t)) → CanBeDone p rule horizon lines orders
