-- What a table lists under a code.
use Rattle.std.proofs.Common.{◌≡◌, ℕ, ◌+◌, ◌*◌, ◌<◌, ◌≤◌, List, [], length, sym, refl, ap, ◌∙◌, arith}
use Rattle.std.proofs.lemmas.List.{get_or_past}
use Rattle.rules.specs.Problems.{step}
use Rattle.steps.specs.declared.fact_set.FactSet.{FactSet}
use Rattle.steps.specs.Sets.{facts_in, meaning}
use Rattle.problem.specs.declared.part.Part.{Part}
use Rattle.problem.specs.declared.part.Part.TheVariants.{Needs, Sets, Clears}
use Rattle.problem.specs.declared.table.StepTable.{StepTable}
use Rattle.problem.specs.Collected.{empty_set}
use Rattle.problem.specs.Tables.{under, means, part_of}

none_lists : facts_in empty_set ≡ []
unfolding facts_in
none_lists = refl

-- nothing past the table
pub under_past : (sets : List FactSet) (c : ℕ) → length sets ≤ c → under sets c ≡ []
under_past sets c h = ap facts_in (get_or_past sets c empty_set h) ∙ none_lists

module _ (t : StepTable) (a : ℕ) (h : 128 < a) where
  far : (c : ℕ) → 516 ≤ c → under t.sets c ≡ []
  far c l = under_past t.sets c (omega (arith, t.long))

  pub no_part : (part : Part) → [] ≡ part_of (means t) part a
  no_part Needs = sym (far (4 * a) (omega arith))
  no_part Sets = sym (far (4 * a + 1) (omega arith))
  no_part Clears = sym (far (4 * a + 2) (omega arith))

  pub no_step : (x y z : FactSet) → facts_in x ≡ [] → facts_in y ≡ [] → facts_in z ≡ [] → meaning (record { number = a; needs = x; sets = y; clears = z }) ≡ step (means t) a
  no_step x y z p q r =
      let e : facts_in x ≡ under t.sets (4 * a) = p ∙ sym (far (4 * a) (omega arith)) in
      let f : facts_in y ≡ under t.sets (4 * a + 1) = q ∙ sym (far (4 * a + 1) (omega arith)) in
      let g : facts_in z ≡ under t.sets (4 * a + 2) = r ∙ sym (far (4 * a + 2) (omega arith)) in
      cc
