-- How a line of a sheet is written.
use Rattle.std.specs.Prelude.{ℕ, List, ◌++◌, codes, decimal}
use Rattle.rules.specs.declared.line.Line.{Line}

-- slot, a space and step
abbrev pub line_shown : Line → List ℕ
line_shown l = decimal l.slot ++ (codes " " ++ decimal l.step)
