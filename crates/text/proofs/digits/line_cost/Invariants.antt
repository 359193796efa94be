use Rattle.std.proofs.Common.{◌≡◌, ◌+◌, ◌*◌, ◌≤◌, length, take}
use Rattle.rules.specs.Lists.{each}
use Rattle.text.specs.Lines.{literal_text}
use Rattle.text.proofs.digits.line_cost.Given as goal

abbrev pub invariant-loop-l : goal.invariant-loop-l
invariant-loop-l l = (l.cost ≡ length (each literal_text (take l.l-index l.clause)) + 2) × (l.cost ≤ 8 * l.l-index + 2)
