use Rattle.std.proofs.Common.{◌≡◌, ◌++◌, drop, vec_items}
use Rattle.sheet_call.specs.Printed.{sheet_text}
use Rattle.sheet_call.proofs.printing.sheet_text.Given as goal

-- what is printed, and the lines that are left
abbrev pub invariant-loop-line : goal.invariant-loop-line
invariant-loop-line l = vec_items l.out ++ sheet_text (drop l.line-index l.lines) ≡ sheet_text l.lines
