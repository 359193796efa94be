-- A call by the rule's number, once the problem is read.
use Rattle.std.proofs.Common.{◌≡◌, ℕ, Bool, false, not, ◌||◌, eqb, ◌⊎◌, List, [], sym, refl, ap, ◌∙◌, subst, inl, inr, ⊎_elim}
use Rattle.std.proofs.lemmas.Bool.{cond-true, cond-false, eq-eqb, ne_eqb, or_left, or_right, not_from_true}
use Rattle.rules.specs.Checks.{first_refusal, Tests, Answers}
use Rattle.rules.specs.Steps.{Rule}
use Rattle.rules.specs.Problems.{Problem}
use Rattle.rules.specs.Clauses.{Clause}
use Rattle.problem.specs.Listed.{problem_of}
use Rattle.problem.specs.Verdict.{verdict}
use Rattle.planner.specs.Encoded.{encode_checks}
use Rattle.requests.specs.Written.{rule_of}
use Rattle.steps.specs.declared.rule_name.RuleName.{RuleName}
use Rattle.steps.specs.declared.rule_name.RuleName.TheVariants.{Single, Parallel}
use Rattle.steps.specs.Named.{rule_named, number_of}
use Rattle.requests.proofs.Asking.{named_of}
use Rattle.foreign.specs.Told.{call_verdict, by_number}

module _ (s bytes : List ℕ) (rule : Rule) (n : ℕ) (b : bytes ≡ s) (r : rule ≡ rule_of n) where
  pub called : (t widest given : ℕ) (cost : Clause → ℕ) (ans : ℕ) → 0 ≡ verdict s → (n ≡ 1) ⊎ (n ≡ 2) → ans ≡ first_refusal (encode_checks (problem_of bytes) rule t [] widest given cost) → ans ≡ call_verdict s t n widest given cost
  called t widest given cost ans v k e =
      e
      ∙ ap (λ (bs : List ℕ). first_refusal (encode_checks (problem_of bs) rule t [] widest given cost)) b
      ∙ ap (λ (x : Rule). first_refusal (encode_checks (problem_of s) x t [] widest given cost)) r
      ∙ sym (cond-true (eqb n 1 || eqb n 2) _ 7 (⊎_elim (λ (h : n ≡ 1). or_left (eqb n 1) (eqb n 2) (eq-eqb n 1 h)) (λ (h : n ≡ 2). or_right (eqb n 1) (eqb n 2) (eq-eqb n 2 h)) k))
      ∙ sym (cond-false (not (eqb (verdict s) 0)) (verdict s) _ (not_from_true (eqb (verdict s) 0) (eq-eqb (verdict s) 0 (sym v))))

  pub moved : (P : Problem → Rule → Type 0) → P (problem_of bytes) rule → P (problem_of s) (rule_of n)
  moved P h = subst (λ (x : Rule). P (problem_of s) x) r (subst (λ (bs : List ℕ). P (problem_of bs) rule) b h)

one_or_two : (rule : RuleName) (n : ℕ) → number_of rule ≡ n → (n ≡ 1) ⊎ (n ≡ 2)
one_or_two Single n e = inl (sym e)
one_or_two Parallel n e = inr (sym e)

-- the same by the rule's name
pub named_called : (s bytes : List ℕ) (rule : RuleName) (n : ℕ) → bytes ≡ s → number_of rule ≡ n → (t widest given : ℕ) (cost : Clause → ℕ) (ans : ℕ) → 0 ≡ verdict s → ans ≡ first_refusal (encode_checks (problem_of bytes) (rule_named rule) t [] widest given cost) → ans ≡ call_verdict s t n widest given cost
named_called s bytes rule n b e t widest given cost ans v h = called s bytes (rule_named rule) n b (named_of rule n e) t widest given cost ans v (one_or_two rule n e) h

pub named_moved : (s bytes : List ℕ) (rule : RuleName) (n : ℕ) → bytes ≡ s → number_of rule ≡ n → (P : Problem → Rule → Type 0) → P (problem_of bytes) (rule_named rule) → P (problem_of s) (rule_of n)
named_moved s bytes rule n b e P h = moved s bytes (rule_named rule) n b (named_of rule n e) P h

-- a rule that there is not is refused by 7, once the problem is read
pub no_rule_called : (s : List ℕ) (n t widest given : ℕ) (cost : Clause → ℕ) → 0 ≡ verdict s → ((rule : RuleName) → number_of rule ≡ n → ⊥) → 7 ≡ call_verdict s t n widest given cost
no_rule_called s n t widest given cost v ne =
    let one : eqb n 1 ≡ false = ne_eqb n 1 (λ e. ne Single (sym e)) in
    let two : eqb n 2 ≡ false = ne_eqb n 2 (λ e. ne Parallel (sym e)) in
    sym (cond-false (eqb n 1 || eqb n 2) _ 7 (ap (λ (b : Bool). b || eqb n 2) one ∙ two)) ∙ sym (cond-false (not (eqb (verdict s) 0)) (verdict s) _ (not_from_true (eqb (verdict s) 0) (eq-eqb (verdict s) 0 (sym v))))

-- the tests of a call by the rule's number, from those of the call by its name
pub named_answers : (s : List ℕ) (rule : RuleName) (n : ℕ) (tests : Tests) (ans : ℕ) → 0 ≡ verdict s → number_of rule ≡ n → Answers tests ans → Answers (by_number s n tests) ans
named_answers s rule n tests ans v e h = inl (sym v, inl (one_or_two rule n e, h))

pub no_rule_answers : (s : List ℕ) (n : ℕ) (tests : Tests) → 0 ≡ verdict s → ((rule : RuleName) → number_of rule ≡ n → ⊥) → Answers (by_number s n tests) 7
no_rule_answers s n tests v ne = inl (sym v, inr (⊎_elim (λ (e : n ≡ 1). ne Single (sym e)) (λ (e : n ≡ 2). ne Parallel (sym e)), refl))
