-- Decode undoes assign.
use Rattle.std.specs.Prelude.{◌≡◌, ℕ, ◌≤◌, List, length}
use Rattle.rules.specs.declared.line.Line.{Line}
use Rattle.rules.specs.Checks.{Answers}
use Rattle.rules.specs.Steps.{Rule}
use Rattle.rules.specs.Problems.{Problem}
use Rattle.rules.specs.Clauses.{value}
use Rattle.rules.specs.Sheets.{Sheet, Holds, model, sheet_of}
use Rattle.checking.specs.Told.{told, bytes_of}
use Rattle.decoding.specs.Decode.{decode_tests}

-- decode grants the bytes of these lines' model, and reads the same lines off them
pub record DecodedBack (p : Problem) (rule : Rule) (horizon space : ℕ) (lines : List Line) : Type 0 where
  pub grants : Answers (decode_tests p rule horizon (bytes_of (model p horizon lines)) space) 0
  pub reads : sheet_of p horizon (value (told (bytes_of (model p horizon lines)))) ≡ lines

-- so it is for every sheet that holds and has space
abbrev pub UndoesAssign : Problem → Rule → ℕ → ℕ → Type 0
UndoesAssign p rule horizon space = horizon ≤ 32 → (lines : List Line) → Sheet p horizon lines → Holds p rule horizon lines → length lines ≤ space → DecodedBack p rule horizon space lines
