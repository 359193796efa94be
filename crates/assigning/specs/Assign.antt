-- When assign grants.
use Rattle.std.specs.Prelude.{◌≡◌, ℕ, ◌≤◌, cond, List, [], ◌∷◌, length, is_ok, Result}
use Rattle.rules.specs.declared.line.Line.{Line}
use Rattle.rules.specs.declared.refusal.Refusal.{Refusal}
use Rattle.rules.specs.Checks.{Tests, Answers}
use Rattle.rules.specs.Refusals.{answer}
use Rattle.rules.specs.Steps.{Rule}
use Rattle.rules.specs.Problems.{Problem}
use Rattle.rules.specs.Formula.{vars}
use Rattle.rules.specs.Sheets.{Sheet, Holds, model}
use Rattle.checking.specs.Told.{bytes_of}

-- T at most 32, a byte for each variable, lines that are a sheet, and that sheet holds
abbrev pub assign_tests : Problem → Rule → ℕ → List Line → ℕ → Tests
assign_tests p rule horizon lines bytes =
    (7, horizon ≤ 32)
    ∷ (14, bytes ≡ vars p horizon)
    ∷ (16, Sheet p horizon lines)
    ∷ (17, Holds p rule horizon lines)
    ∷ []

-- granted, the bytes are those of the sheet's model; refused, they are as before
pub record Assigns (p : Problem) (rule : Rule) (horizon : ℕ) (lines : List Line) (before : List ℕ) (r : Result Unit Refusal) (after : List ℕ) : Type 0 where
  pub answers : Answers (assign_tests p rule horizon lines (length before)) (answer r)
  pub writes : after ≡ cond (is_ok r) (bytes_of (model p horizon lines)) before
