-- What encode into a text sink of 65,536 bytes comes to.
use Rattle.std.proofs.Common.{◌≡◌, ℕ, ◌+◌, ◌-◌, ◌*◌, ◌<◌, ◌≤◌, true, false, cond, eqb, ltb, leb, List, [], ◌∷◌, ◌++◌, length, sym, refl, ap, ◌∙◌, ⊎_elim, mul-le-mul, arith}
use Rattle.std.specs.List.{AllByRecursion}
use Rattle.std.proofs.lemmas.List.{length-append}
use Rattle.std.proofs.lemmas.Bool.{cond-true, cond-false, le-leb, lt-leb, le-ltb, lt-ltb, cases_lt, eq-eqb, cases_Bool}
use Rattle.rules.specs.declared.refusal.Refusal.{Refusal}
use Rattle.rules.specs.Refusals.{number}
use Rattle.rules.specs.Checks.{first_refusal}
use Rattle.rules.specs.Steps.{Rule}
use Rattle.rules.specs.Problems.{Problem}
use Rattle.rules.specs.Clauses.{Clause, total, bad_clause}
use Rattle.rules.specs.Formula.{vars, formula}
use Rattle.rules.proofs.Ranges.{formula_good}
use Rattle.problem.proofs.Refused.{refused}
use Rattle.text.specs.Lines.{line_text, lines_text, text_cost}
use Rattle.planner.specs.Encoded.{encode_checks}
use Rattle.requests.specs.Printed.{head_line, refused_line}
use Rattle.requests.specs.Written.{problem_text}

-- good clauses cost their lines
text_total : (cs : List Clause) → AllByRecursion (λ c. bad_clause 999999 c ≡ false) cs → total text_cost cs ≡ length (lines_text cs)
text_total [] h = refl
text_total (c ∷ cs) h =
    let e : text_cost c ≡ length (line_text c) = cond-false (bad_clause 999999 c) 0 (length (line_text c)) h.0 in
    omega (arith, e, text_total cs h.1, length-append (line_text c) (lines_text cs))

module _ (p : Problem) (facts : p.facts ≤ 64) (steps : p.steps ≤ 128) (rule : Rule) (t : ℕ) (few : t ≤ 32) where
  pub narrow : vars p t ≤ 6208
  narrow = let m : t * (p.facts + p.steps) ≤ 6144 = mul-le-mul few (let w : p.facts + p.steps ≤ 192 = omega arith in w) in omega (arith, m)

  size : total text_cost (formula p rule t) ≡ length (lines_text (formula p rule t))
  size = text_total (formula p rule t) (formula_good p rule t 999999 steps (omega (arith, narrow)))

  -- the only check that can fail
  pub text_refusal : (held : List Clause) (capacity : ℕ) → held ≡ [] → capacity ≡ 65536 → first_refusal (encode_checks p rule t held 999999 (capacity - total text_cost held) text_cost) ≡ cond (ltb 65536 (length (lines_text (formula p rule t)))) 9 0
  text_refusal held capacity none all =
      let left : capacity - total text_cost held ≡ 65536 = omega (arith, all, ap (total text_cost) none) in
      let n = length (lines_text (formula p rule t)) in
      cond-true (leb t 32) _ 7 (le-leb t 32 few)
      ∙ cond-true (eqb (length held) 0) _ 10 (eq-eqb (length held) 0 (ap length none))
      ∙ cond-true (leb (vars p t) 999999) _ 11 (le-leb (vars p t) 999999 (omega (arith, narrow)))
      ∙ ap (λ x. cond (leb x (capacity - total text_cost held)) 0 9) size
      ∙ ap (λ x. cond (leb n x) 0 9) left
      ∙ ⊎_elim
      (λ (l : 65536 < n). cond-false (leb n 65536) 0 9 (lt-leb n 65536 l) ∙ sym (cond-true (ltb 65536 n) 9 0 (lt-ltb 65536 n l)))
      (λ (l : n ≤ 65536). cond-true (leb n 65536) 0 9 (le-leb n 65536 l) ∙ sym (cond-false (ltb 65536 n) 9 0 (le-ltb 65536 n l)))
      (cases_lt 65536 n)

  pub text_refused : (e : Refusal) → number e ≡ cond (ltb 65536 (length (lines_text (formula p rule t)))) 9 0 → refused_line (number e) ≡ problem_text p rule t
  text_refused e h =
      let b = ltb 65536 (length (lines_text (formula p rule t))) in
      ⊎_elim
      (λ (y : b ≡ true). ap refused_line (h ∙ cond-true b 9 0 y) ∙ sym (cond-true b (refused_line 9) _ y))
      (λ (n : b ≡ false). absurd (refused e (h ∙ cond-false b 9 0 n)))
      (cases_Bool b)

  pub text_granted : (v c : ℕ) (lines : List ℕ) → ◌≡◌ {A = ℕ} 0 (cond (ltb 65536 (length (lines_text (formula p rule t)))) 9 0) → v ≡ vars p t → c ≡ length (formula p rule t) → lines ≡ lines_text (formula p rule t) → head_line v c ++ lines ≡ problem_text p rule t
  text_granted v c lines h ev ec el =
      let b = ltb 65536 (length (lines_text (formula p rule t))) in
      ⊎_elim
      (λ (y : b ≡ true). absurd (let z : ◌≡◌ {A = ℕ} 0 9 = h ∙ cond-true b 9 0 y in omega arith))
      (λ (n : b ≡ false). ap (λ x. head_line x c ++ lines) ev ∙ ap (λ x. head_line (vars p t) x ++ lines) ec ∙ ap (λ ls. head_line (vars p t) (length (formula p rule t)) ++ ls) el ∙ sym (cond-false b (refused_line 9) _ n))
      (cases_Bool b)
