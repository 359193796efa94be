-- What the formula costs, and that the sum fits.
use Rattle.std.proofs.Common.{◌≡◌, ℕ, ◌+◌, ◌*◌, ◌^◌, ◌<◌, ◌≤◌, List, [], ◌∷◌, length, ℤ, Result, subst, inl, inr, mul-le-mul_left, arith}
use Rattle.std.specs.declared.convert.Infallible.{Infallible}
use Rattle.rules.specs.Steps.{Rule}
use Rattle.rules.specs.Problems.{Problem}
use Rattle.rules.specs.Clauses.{Clause, total, literals}
use Rattle.rules.specs.Formula.{slot_clauses, formula}
use Rattle.std.specs.Fn.{Shared}
use denote.Ref.{Bor, MutBor}
use Rattle.formula.specs.Visits.{Shown, Visits}
use Rattle.formula.proofs.Visiting.{visits_map}
use Rattle.formula.proofs.Totals.{no_stop, formula_total, length_total, few_slot, few_starts, few_goals}
use Rattle.planner.specs.Steps.{Costed}

pub costed : (cost : Clause → ℕ) (cs : List Clause) (a b : ℕ) (r : Result Unit Infallible) → Visits (λ a c r b. Costed cost a c b) a cs r b → a + total cost cs < 2 ^ 64 → b ≡ a + total cost cs
costed cost [] a b r h k = omega (arith, h.1)
costed cost (c ∷ cs) a b r (inl h) k =
    let p : h.0 ≡ a + cost c = h.1 (omega arith) in
    omega (arith, p, costed cost cs h.0 b r h.2 (omega (arith, p)))
costed cost (c ∷ cs) a b r (inr h) k = absurd (no_stop r h.0)

-- the same, where each call of a closure adds what its clause costs
pub costed_by : {F : Type 0} (cost : Clause → ℕ) (calls : Shared F (MutBor ℕ × (Bor (List ℤ) × Unit {0})) (Result Unit Infallible × (MutBor ℕ × Unit {0}))) (f : F) → ((a b : MutBor ℕ) (c : Bor (List ℤ)) (r : Result Unit Infallible) → calls.post f (a, (c, tt)) (r, (b, tt)) → Costed cost a.now c.now b.now) → (cs : List Clause) (a b : ℕ) (r : Result Unit Infallible) → Visits (Shown calls f) a cs r b → a + total cost cs < 2 ^ 64 → b ≡ a + total cost cs
costed_by cost calls f adds cs a b r v =
    let one : (x : ℕ) (c : Clause) (s : Result Unit Infallible) (y : ℕ) → Shown calls f x c s y → Costed cost x c y = λ x c s y h.
    subst (λ z. Costed cost z c y) h.lends (subst (λ z. Costed cost h.lent.now z y) h.shows (subst (λ z. Costed cost h.lent.now h.clause.now z) h.leaves (adds h.lent h.left h.clause s h.answers))) in
    costed cost cs a b r (visits_map {one = Shown calls f} {two = λ x c s y. Costed cost x c y} one cs a b r v)

pub total_cheap : (cost : Clause → ℕ) → ((c : Clause) → cost c ≤ 8 * length c + 2) → (cs : List Clause) → total cost cs ≤ 8 * literals cs + 2 * length cs
total_cheap cost cheap [] = omega arith
total_cheap cost cheap (c ∷ cs) = omega (arith, cheap c, total_cheap cost cheap cs)

module _ (p : Problem) (facts : p.facts ≤ 64) (steps : p.steps ≤ 128) (rule : Rule) (t : ℕ) where
  pub few_literals : literals (formula p rule t) ≤ t * 98560 + 256
  few_literals =
      let s = few_slot length p facts steps rule (λ c l. l) (λ c l. l) 0 in
      let m : t * literals (slot_clauses p rule 0) ≤ t * 98560 = mul-le-mul_left t s in
      omega (arith, formula_total (λ n. n) p rule t, m, few_starts length p facts steps rule (λ c l. l) (λ c l. l), few_goals length p facts steps rule (λ c l. l) (λ c l. l) t)

  pub few_clauses : length (formula p rule t) ≤ t * 98560 + 256
  few_clauses =
      let s = few_slot (λ _. 1) p facts steps rule (λ c l. omega arith) (λ c l. omega arith) 0 in
      let m : t * total (λ _. 1) (slot_clauses p rule 0) ≤ t * 98560 = mul-le-mul_left t s in
      omega (arith, length_total (formula p rule t), formula_total (λ _. 1) p rule t, m, few_starts (λ _. 1) p facts steps rule (λ c l. omega arith) (λ c l. omega arith), few_goals (λ _. 1) p facts steps rule (λ c l. omega arith) (λ c l. omega arith) t)

  pub cost_fits : t ≤ 65535 → (cost : Clause → ℕ) → ((c : Clause) → cost c ≤ 8 * length c + 2) → total cost (formula p rule t) < 2 ^ 64
  cost_fits h cost cheap = omega (arith, total_cheap cost cheap (formula p rule t), few_literals, few_clauses)
