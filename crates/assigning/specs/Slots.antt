-- What the lines put into each slot, as arrays.
use Rattle.std.specs.Prelude.{◌≡◌, ℕ, suc, ◌+◌, ◌-◌, ◌*◌, ◌/◌, ◌%◌, ◌<◌, ◌≤◌, Bool, false, cond, not, ◌&&◌, ◌||◌, List, length, ◌==◌, nat_lt, slice_index, slice_index_or}
use Rattle.rules.specs.declared.line.Line.{Line}
use Rattle.rules.specs.Lists.{any, has}
use Rattle.rules.specs.Problems.{Problem}
use Rattle.rules.specs.Formula.{width}
use Rattle.rules.specs.Sheets.{slot, chosen}
use Rattle.steps.specs.Sets.{facts_in}
use Rattle.problem.specs.Collected.{empty_set}
use Rattle.assigning.specs.declared.gathering.SlotChange.{SlotChange}

-- what an empty slot changes
abbrev pub no_change : SlotChange
no_change = record { clears = empty_set; sets = empty_set }

-- 128 places for each slot, true where the step stands in it
pub record Marks (lines : List Line) (marks : List Bool) : Type 0 where
  pub long : length marks ≡ 4096
  pub marked : (u a : ℕ) → u < 32 → 1 ≤ a → a ≤ 128 → slice_index_or marks (128 * u + (a - 1)) false ≡ chosen lines (suc u) a

-- for each slot all facts that its steps clear, and all that they set
pub record Changes (p : Problem) (lines : List Line) (changes : List SlotChange) : Type 0 where
  pub long : length changes ≡ 32
  pub clears : (u f : ℕ) → u < 32 → has f (facts_in (slice_index_or changes u no_change).clears) ≡ any (λ a. has f (p.clears a)) (slot lines (suc u))
  pub sets : (u f : ℕ) → u < 32 → has f (facts_in (slice_index_or changes u no_change).sets) ≡ any (λ a. has f (p.sets a)) (slot lines (suc u))

-- what the arrays and the bytes so far say of variable i + 1: of a step its mark; of a fact whether it is present at the start, or stays after the slot or is set in it
abbrev pub computed : Problem → List Bool → List SlotChange → List ℕ → ℕ → Bool
computed p marks changes known i =
    cond (nat_lt (i % width p) p.facts)
    (cond (i / width p == 0)
    (has (i % width p + 1) p.start)
    ((slice_index known (i - width p) == 1 && not (has (i % width p + 1) (facts_in (slice_index_or changes (i / width p - 1) no_change).clears))) || has (i % width p + 1) (facts_in (slice_index_or changes (i / width p - 1) no_change).sets)))
    (slice_index_or marks (128 * (i / width p) + (i % width p - p.facts)) false)
