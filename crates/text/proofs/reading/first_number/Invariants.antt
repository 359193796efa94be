use Rattle.std.proofs.Common.{◌≡◌, ◌<◌, drop}
use Rattle.text.specs.Scan.{scan, numbers}
use Rattle.text.proofs.reading.first_number.Given as goal

abbrev pub invariant-loop-i : goal.invariant-loop-i
invariant-loop-i l = (l.size < 1048576) × (numbers l.text ≡ scan l.minus l.size (drop l.i l.text))
