-- All of the lent memory after decode: what was written and past it everything as it was; refused, everything as it was.
use Rattle.std.specs.Prelude.{◌≡◌, ℕ, List, Ok, Err, Result}
use Rattle.rules.specs.declared.refusal.Refusal.{Refusal}
use Rattle.rules.specs.Problems.{Problem}
use Rattle.rules.specs.declared.line.Line.{Line}
use Rattle.rules.specs.Clauses.{value}
use Rattle.rules.specs.Sheets.{sheet_of}
use Rattle.checking.specs.Told.{told}
use Rattle.requests.specs.Lent.{rendered_over}

-- the lines of the sheet that the truth bytes tell
abbrev pub lines_after : Problem → ℕ → List ℕ → List Line → Result ℕ Refusal → List Line → Type 0
lines_after p t truth before (Ok n) after = rendered_over (sheet_of p t (value (told truth))) before n after
lines_after p t truth before (Err e) after = after ≡ before
