-- A table that collects all pairs of a problem states that problem.
use Rattle.std.proofs.Common.{◌≡◌, ℕ, ◌+◌, ◌*◌, ◌<◌, ◌≤◌, List, get_or, sym, refl, ap, ◌∙◌, ⊎_elim, arith}
use mathlib.Core.Path.{fun_ext}
use Rattle.std.proofs.lemmas.Bool.{cases_lt}
use Rattle.rules.specs.Lists.{has}
use Rattle.steps.specs.declared.fact_set.FactSet.{FactSet}
use Rattle.problem.specs.Bytes.{facts, steps, pairs}
use Rattle.problem.specs.Listed.{listed, problem_of}
use Rattle.problem.specs.Verdict.{verdict}
use Rattle.problem.specs.Collected.{empty_set, Collects}
use Rattle.problem.specs.Tables.{under, stated_by}
use Rattle.problem.proofs.Lawful.{lawful_head, lawful_scan, past_steps}
use Rattle.problem.proofs.Unders.{under_past}
use Rattle.problem.proofs.Collecting.{set_is_listed, under_listed}

module _ (s : List ℕ) (sets : List FactSet) (h : verdict s ≡ 0) (t : Collects s sets (pairs s)) where
  lists : (c : ℕ) → under sets c ≡ listed s c
  lists c =
      let head = lawful_head s h in
      let scanned = lawful_scan s h in
      ⊎_elim
      (λ (l : c < 516). under_listed s sets (pairs s) refl head.1 scanned t c empty_set l)
      (λ (l : 516 ≤ c). set_is_listed s (get_or sets c empty_set) c head.1 scanned (λ f. ap (has f) (under_past sets c (omega (arith, t.long))) ∙ sym (past_steps s c f h (omega (arith, head.2)))))
      (cases_lt c 516)

  pub stated : (f a : ℕ) → f ≡ facts s → a ≡ steps s → stated_by f a sets ≡ problem_of s
  stated f a p q =
      let at : (g : ℕ → ℕ) → (λ n. under sets (g n)) ≡ (λ n. listed s (g n)) = λ g. fun_ext (λ n. lists (g n)) in
      λ i. record {
        facts = p i;
        steps = q i;
        needs = at (λ n. 4 * n) i;
        sets = at (λ n. 4 * n + 1) i;
        clears = at (λ n. 4 * n + 2) i;
        start = lists 0 i;
        goals = lists 1 i;
      }
