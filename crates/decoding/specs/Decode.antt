-- When decode grants, and what its sheet is.
use Rattle.std.specs.Prelude.{◌≡◌, ℕ, ◌≤◌, List, [], ◌∷◌, length}
use Rattle.rules.specs.declared.line.Line.{Line}
use Rattle.rules.specs.Checks.{Tests}
use Rattle.rules.specs.Steps.{Rule}
use Rattle.rules.specs.Problems.{Problem}
use Rattle.rules.specs.Clauses.{Model, value}
use Rattle.rules.specs.Formula.{vars, formula}
use Rattle.rules.specs.Sheets.{Sheet, Holds, model, sheet_of}
use Rattle.checking.specs.Told.{told, TruthBytes}

-- T at most 32, truth bytes for the variables, a model, and space for the sheet's lines
abbrev pub decode_tests : Problem → Rule → ℕ → List ℕ → ℕ → Tests
decode_tests p rule horizon truth space =
    (7, horizon ≤ 32)
    ∷ (14, TruthBytes (vars p horizon) truth)
    ∷ (15, Model (vars p horizon) (formula p rule horizon) (told truth))
    ∷ (9, length (sheet_of p horizon (value (told truth))) ≤ space)
    ∷ []

-- the lines are a sheet that holds, and the truth bytes are its model
pub record SheetOfModel (p : Problem) (rule : Rule) (horizon : ℕ) (truth : List ℕ) (lines : List Line) : Type 0 where
  pub sheet : Sheet p horizon lines
  pub holds : Holds p rule horizon lines
  pub modelled : model p horizon lines ≡ told truth
