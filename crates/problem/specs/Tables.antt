-- What a step table means, and what a problem answers.
use Rattle.std.specs.Prelude.{◌≡◌, ℕ, ◌+◌, ◌*◌, ◌<◌, ◌≤◌, ◌⊎◌, List, Some, None, Option, slice_index_or}
use Rattle.rules.specs.Problems.{Problem, step}
use Rattle.steps.specs.declared.fact_set.FactSet.{FactSet}
use Rattle.steps.specs.declared.step_record.StepRecord.{StepRecord}
use Rattle.steps.specs.Sets.{facts_in, meaning}
use Rattle.problem.specs.Collected.{empty_set}
use Rattle.problem.specs.declared.part.Part.{Part}
use Rattle.problem.specs.declared.part.Part.TheVariants.{Needs, Sets, Clears}
use Rattle.problem.specs.declared.table.StepTable.{StepTable}

-- the set under a code, empty past the table
abbrev pub under : List FactSet → ℕ → List ℕ
under sets c = facts_in (slice_index_or sets c empty_set)

-- the problem that the numbers and sets of a table state
abbrev pub stated_by : ℕ → ℕ → List FactSet → Problem
stated_by f a sets = record {
  facts = f;
  steps = a;
  needs = λ n. under sets (4 * n);
  sets = λ n. under sets (4 * n + 1);
  clears = λ n. under sets (4 * n + 2);
  start = under sets 0;
  goals = under sets 1;
}

abbrev pub means : StepTable → Problem
means t = stated_by t.facts t.steps t.sets

-- the facts that step a needs, sets or clears
abbrev pub part_of : Problem → Part → ℕ → List ℕ
part_of p Needs = p.needs
part_of p Sets = p.sets
part_of p Clears = p.clears

-- the record of step a where there is such a step, and nothing elsewhere
abbrev pub StepAsked : Problem → ℕ → Option StepRecord → Type 0
StepAsked p a None = (a < 1) ⊎ (p.steps < a)
StepAsked p a (Some r) = (1 ≤ a) × (a ≤ p.steps) × (meaning r ≡ step p a)
