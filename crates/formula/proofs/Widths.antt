-- How large the variables are.
use Rattle.std.proofs.Common.{ℕ, ◌+◌, ◌*◌, ◌≤◌, mul-le-mul, arith}
use Rattle.problem.specs.declared.table.StepTable.{StepTable}

pub offset : (p : StepTable) (t : ℕ) → t ≤ 65536 → t * (p.facts + p.steps) ≤ 12582912
offset p t h = let w : p.facts + p.steps ≤ 192 = omega (arith, p.few.0, p.few.1) in mul-le-mul h w
