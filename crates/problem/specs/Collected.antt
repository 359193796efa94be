-- The facts under each code, as sets, after the first pairs.
use Rattle.std.specs.Prelude.{◌≡◌, ℕ, ◌<◌, List, length, slice_index_or}
use Rattle.rules.specs.Lists.{has}
use Rattle.steps.specs.declared.fact_set.FactSet.{FactSet}
use Rattle.steps.specs.Sets.{facts_in}
use Rattle.problem.specs.Listed.{among}

abbrev pub empty_set : FactSet
empty_set = record { bits = 0 }

pub record Collects (s : List ℕ) (sets : List FactSet) (n : ℕ) : Type 0 where
  pub long : length sets ≡ 516
  pub lists : (c f : ℕ) → c < 516 → has f (facts_in (slice_index_or sets c empty_set)) ≡ among s c f n
