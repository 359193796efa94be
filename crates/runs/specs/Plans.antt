-- The theorems on runs over the formula of a problem: they conclude only where no sheet holds, and there they can.
use Rattle.std.specs.Prelude.{◌≡◌, ℕ, ◌*◌, ◌^◌, ◌≤◌, List, length}
use Rattle.std.specs.List.{AllByRecursion}
use Rattle.rules.specs.declared.line.Line.{Line}
use Rattle.rules.specs.Steps.{Rule, Lawful}
use Rattle.rules.specs.Problems.{Problem, Sound}
use Rattle.rules.specs.Formula.{vars, formula}
use Rattle.rules.specs.Sheets.{Sheet, Holds}
use Rattle.runs.specs.Calls.{Refutation}
use Rattle.runs.specs.Runs.{Begun, Turn, Concludes, Run}
use Rattle.runs.specs.Laws.{Concluded}

-- while a sheet holds no run over the formula concludes, whatever V `begin` was given
abbrev pub SheetsAreSafe : Type 0
SheetsAreSafe = (p : Problem) → Sound p → (rule : Rule) → Lawful rule → (horizon : ℕ) (lines : List Line) → Sheet p horizon lines → Holds p rule horizon lines → (V : ℕ) (o e : Refutation) → Begun (formula p rule horizon) V o → (turns : List Turn) → Run (formula p rule horizon) o turns e → AllByRecursion (λ t. Concludes t → ⊥) turns

-- where no sheet holds and the formula has at most 16 variables, every refutation begun for these or more can be concluded, in lists with room for 2^V lemmas and V × 2^V literals, with the formula's V
abbrev pub NoSheetConcludes : Type 0
NoSheetConcludes = (p : Problem) → Sound p → (rule : Rule) → Lawful rule → (horizon : ℕ) → vars p horizon ≤ 16 → ((lines : List Line) → Sheet p horizon lines → Holds p rule horizon lines → ⊥) → (V : ℕ) (o : Refutation) → Begun (formula p rule horizon) V o → vars p horizon ≤ V → 2 ^ vars p horizon ≤ o.memory.records.room → vars p horizon * 2 ^ vars p horizon ≤ o.memory.literals.room → (marks : List ℕ) → length marks ≡ V → Concluded (formula p rule horizon) o marks
