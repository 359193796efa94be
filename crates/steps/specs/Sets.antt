-- What a set of facts and a step record mean.
use Rattle.std.specs.Prelude.{◌≡◌, ℕ, ◌-◌, ◌/◌, ◌%◌, ◌^◌, Bool, true, List, filter, ◌==◌}
use Rattle.std.specs.List.{range_with_len}
use Rattle.rules.specs.Lists.{has}
use Rattle.rules.specs.Steps.{Step}
use Rattle.steps.specs.declared.fact_set.FactSet.{FactSet}
use Rattle.steps.specs.declared.step_record.StepRecord.{StepRecord}

-- fact f is bit f - 1
abbrev pub bit : ℕ → ℕ → Bool
bit bits f = bits / 2 ^ (f - 1) % 2 == 1

-- the facts of the set, rising
unfoldable pub facts_in : FactSet → List ℕ
facts_in s = filter (bit s.bits) (range_with_len 1 64)

-- every fact of the first set is in the second
abbrev pub Subset : FactSet → FactSet → Type 0
Subset s t = (f : ℕ) → has f (facts_in s) ≡ true → has f (facts_in t) ≡ true

-- the step that a record stands for
abbrev pub meaning : StepRecord → Step
meaning r = record { number = r.number; needs = facts_in r.needs; sets = facts_in r.sets; clears = facts_in r.clears }
