-- A sheet as it is printed.
use Rattle.std.specs.Prelude.{ℕ, List, ◌++◌, codes, decimal}
use Rattle.rules.specs.declared.line.Line.{Line}
use Rattle.rules.specs.Lists.{each}

-- slot, a space, step and a line feed
abbrev pub line_text : Line → List ℕ
line_text l = decimal l.slot ++ (codes " " ++ (decimal l.step ++ codes "\n"))

-- line by line; a sheet without lines prints nothing
abbrev pub sheet_text : List Line → List ℕ
sheet_text lines = each line_text lines
