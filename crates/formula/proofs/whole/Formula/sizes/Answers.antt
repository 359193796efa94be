use Rattle.std.proofs.Common.{◌≡◌, ℕ, ◌+◌, ◌*◌, ◌≤◌, length, sym, refl, ap, ◌∙◌, mul-le-mul, arith}
use Rattle.rules.specs.Clauses.{literals}
use Rattle.rules.specs.Formula.{start_clauses, goal_clauses, slot_clauses, formula}
use Rattle.problem.specs.Tables.{means}
use Rattle.formula.proofs.Totals.{formula_total, length_total}
use Rattle.formula.proofs.whole.Formula.sizes.Goals as goal

same : (t a b k l y z : ℕ) → a ≡ b → k ≡ l → y ≡ z → a + (t * k + y) ≡ b + (t * l + z)
same t a b k l y z p q r = let m : t * k ≡ t * l = ap (λ n. t * n) q in omega (arith, p, m, r)

-- the whole from its parts
sum_is : (t e s x k y all : ℕ) → e ≡ x + y → s ≡ k → all ≡ x + (t * k + y) → e + t * s ≡ all
sum_is t e s x k y all p q r = let m : t * s ≡ t * k = ap (λ n. t * n) q in omega (arith, p, m, r)

pub returns : goal.returns
returns g c =
    let p = means c.args.self.now.table in
    let rule = g.R.SlotRule.parts c.args.self.now.rule.now in
    let t = c.args.self.now.horizon in
    let ends = c.count_ends-ends.ensures in
    let slot = c.count_slot-slot.ensures in
    let ones : length (formula p rule t) ≡ length (start_clauses p) + (t * length (slot_clauses p rule 0) + length (goal_clauses p t)) =
    length_total (formula p rule t) ∙ formula_total (λ _. 1) p rule t ∙ same t _ _ _ _ _ _ (sym (length_total (start_clauses p))) (sym (length_total (slot_clauses p rule 0))) (sym (length_total (goal_clauses p t))) in
    record {
      counts_formula = record {
        variables = c.variables.ensures.counts_variables;
        clauses = sum_is t _ _ (length (start_clauses p)) (length (slot_clauses p rule 0)) (length (goal_clauses p t)) _ ends.clauses slot.clauses ones;
        all_literals = sum_is t _ _ (literals (start_clauses p)) (literals (slot_clauses p rule 0)) (literals (goal_clauses p t)) _ ends.literals slot.literals (formula_total (λ n. n) p rule t);
      };
    }
