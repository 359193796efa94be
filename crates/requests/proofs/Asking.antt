-- From the two numbers and the problem's verdict to what is printed.
use Rattle.std.proofs.Common.{◌≡◌, ℕ, ◌-◌, ◌≤◌, Bool, true, false, cond, not, ◌||◌, eqb, ltb, leb, List, length, take, drop, sym, refl, ap, ◌∙◌, arith}
use Rattle.std.proofs.lemmas.List.{take_rest}
use Rattle.std.proofs.lemmas.Bool.{cond-true, cond-false, eq-eqb, ne_eqb, and_parts, and_right, leb-true, le-ltb}
use Rattle.rules.specs.Steps.{Rule, single, parallel}
use Rattle.steps.specs.declared.rule_name.RuleName.{RuleName}
use Rattle.steps.specs.declared.rule_name.RuleName.TheVariants.{Single, Parallel}
use Rattle.steps.specs.Named.{rule_named, number_of}
use Rattle.problem.specs.Listed.{problem_of}
use Rattle.problem.specs.Verdict.{verdict}
use Rattle.requests.specs.Printed.{refused_line}
use Rattle.requests.specs.Written.{horizon, rule_number, rule_of, rest, asked, problem_text, request_verdict, write_verdict, written}

last_check : (a b d : Bool) → ◌≡◌ {A = ℕ} (cond a 1 (cond b 3 (cond (not d) 7 0))) 0 → d ≡ true
last_check true b d h = absurd (omega arith)
last_check false true d h = absurd (omega arith)
last_check false false true h = refl
last_check false false false h = absurd (omega arith)

pub few_slots : (s : List ℕ) → request_verdict s ≡ 0 → horizon s ≤ 32
few_slots s h = leb-true (horizon s) 32 (and_parts (leb (horizon s) 32) _ (last_check (ltb (length s) 4) (ltb 65536 (length s)) (asked s) h)).0

verdict_is : (s : List ℕ) → request_verdict s ≡ 0 → write_verdict s ≡ verdict (rest s)
verdict_is s h = cond-true (eqb (request_verdict s) 0) (verdict (rest s)) (request_verdict s) (eq-eqb (request_verdict s) 0 h)

pub bad_problem : (s : List ℕ) (n : ℕ) → request_verdict s ≡ 0 → n ≡ verdict (take (length s - 4) (drop 4 s)) → (n ≡ 0 → ⊥) → refused_line n ≡ written s
bad_problem s n h e ne =
    let v : n ≡ write_verdict s = e ∙ ap verdict (take_rest s 4) ∙ sym (verdict_is s h) in
    ap refused_line v ∙ sym (cond-false (eqb (write_verdict s) 0) _ _ (ne_eqb (write_verdict s) 0 (λ z. ne (v ∙ z))))

pub good_problem : (s : List ℕ) (rule : Rule) (t : ℕ) (bytes : List ℕ) → request_verdict s ≡ 0 → bytes ≡ take (length s - 4) (drop 4 s) → 0 ≡ verdict (take (length s - 4) (drop 4 s)) → rule ≡ rule_of (rule_number s) → t ≡ horizon s → problem_text (problem_of bytes) rule t ≡ written s
good_problem s rule t bytes h b v r e =
    let z : write_verdict s ≡ 0 = verdict_is s h ∙ sym (v ∙ ap verdict (take_rest s 4)) in
    ap (λ (bs : List ℕ). problem_text (problem_of bs) rule t) (b ∙ take_rest s 4)
    ∙ ap (λ (x : Rule). problem_text (problem_of (rest s)) x t) r
    ∙ ap (λ n. problem_text (problem_of (rest s)) (rule_of (rule_number s)) n) e
    ∙ sym (cond-true (eqb (write_verdict s) 0) _ _ (eq-eqb (write_verdict s) 0 z))

pub rule_1 : (n : ℕ) → 1 ≡ n → single ≡ rule_of n
rule_1 n e = sym (cond-true (eqb n 1) single parallel (eq-eqb n 1 (sym e)))

pub rule_2 : (n : ℕ) → 2 ≡ n → parallel ≡ rule_of n
rule_2 n e = sym (cond-false (eqb n 1) single parallel (ne_eqb n 1 (λ z. let w : ◌≡◌ {A = ℕ} 2 1 = e ∙ z in omega arith)))

-- a rule that there is not is refused by 7
pub no_rule : (s : List ℕ) → 4 ≤ length s → length s ≤ 65536 → ((rule : RuleName) → number_of rule ≡ rule_number s → ⊥) → request_verdict s ≡ 7
no_rule s l h ne =
    let one : eqb (rule_number s) 1 ≡ false = ne_eqb (rule_number s) 1 (λ e. ne Single (sym e)) in
    let two : eqb (rule_number s) 2 ≡ false = ne_eqb (rule_number s) 2 (λ e. ne Parallel (sym e)) in
    let none : asked s ≡ false = and_right (leb (horizon s) 32) _ (ap (λ (b : Bool). b || eqb (rule_number s) 2) one ∙ two) in
    cond-false (ltb (length s) 4) 1 _ (le-ltb (length s) 4 l) ∙ cond-false (ltb 65536 (length s)) 3 _ (le-ltb 65536 (length s) h) ∙ cond-true (not (asked s)) 7 0 (ap not none)

-- a named rule is the one of its number
pub named_of : (rule : RuleName) (n : ℕ) → number_of rule ≡ n → rule_named rule ≡ rule_of n
named_of Single n e = rule_1 n e
named_of Parallel n e = rule_2 n e
