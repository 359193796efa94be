-- The clauses of the steps that are parted from one step.
use Rattle.std.specs.Prelude.{ℕ, ◌+◌, ◌-◌, List, [], ◌∷◌}
use Rattle.std.specs.List.{range_with_len}
use Rattle.rules.specs.Lists.{each, only}
use Rattle.rules.specs.Steps.{Rule, Step}
use Rattle.rules.specs.Problems.{Problem}
use Rattle.rules.specs.Clauses.{Clause, nay}
use Rattle.rules.specs.Formula.{step_var, parted_cell}

-- two steps, if the rule parts them, are not both in the slot
abbrev pub parted_pair : Problem → Rule → ℕ → Step → Step → List Clause
parted_pair p rule u s t = only (rule s t) (nay (step_var p u s.number) ∷ nay (step_var p u t.number) ∷ [])

abbrev pub parted_row : Problem → Rule → ℕ → ℕ → List Clause
parted_row p rule u a = each (parted_cell p rule u a) (range_with_len (a + 1) (p.steps - a))
