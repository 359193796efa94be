-- Assign undoes decode.
use Rattle.std.specs.Prelude.{◌≡◌, ℕ, List, length}
use Rattle.rules.specs.Checks.{Answers}
use Rattle.rules.specs.Steps.{Rule}
use Rattle.rules.specs.Problems.{Problem}
use Rattle.rules.specs.Clauses.{value}
use Rattle.rules.specs.Sheets.{model, sheet_of}
use Rattle.checking.specs.Told.{told, bytes_of}
use Rattle.decoding.specs.Decode.{decode_tests}
use Rattle.assigning.specs.Assign.{assign_tests}

-- assign grants the sheet that is read off these bytes, and writes the same bytes for it
pub record AssignedBack (p : Problem) (rule : Rule) (horizon : ℕ) (truth : List ℕ) : Type 0 where
  pub grants : Answers (assign_tests p rule horizon (sheet_of p horizon (value (told truth))) (length truth)) 0
  pub writes : bytes_of (model p horizon (sheet_of p horizon (value (told truth)))) ≡ truth

-- so it is for all bytes that decode grants
abbrev pub UndoesDecode : Problem → Rule → ℕ → Type 0
UndoesDecode p rule horizon = (truth : List ℕ) (space : ℕ) → Answers (decode_tests p rule horizon truth space) 0 → AssignedBack p rule horizon truth
