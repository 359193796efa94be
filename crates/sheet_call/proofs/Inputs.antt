-- From the parts of an input to what is printed.
use Rattle.std.proofs.Common.{◌≡◌, ℕ, ◌-◌, ◌⊎◌, List, take, drop, sym, ap, ◌∙◌, subst, inl, inr, arith}
use Rattle.rules.specs.Steps.{Rule}
use Rattle.problem.specs.Listed.{problem_of}
use Rattle.problem.specs.Verdict.{verdict}
use Rattle.requests.specs.Printed.{refused_line}
use Rattle.requests.specs.Written.{horizon, rule_number, rule_of, rest, request_verdict}
use Rattle.sheet_call.specs.Replied.{problem_length, problem_in, answer_in, Replied, NoReply, SheetTold}

module _ (s more : List ℕ) (is : more ≡ rest s) (end : ℕ) (at : end ≡ problem_length more) (asked : request_verdict s ≡ 0) where
  problem_is : take (end - 0) more ≡ problem_in s
  problem_is = ap (λ n. take n more) (let e : end - 0 ≡ problem_length more = omega (arith, at) in e) ∙ ap (λ (bs : List ℕ). take (problem_length bs) bs) is

  answer_is : drop end more ≡ answer_in s
  answer_is = ap (λ n. drop n more) at ∙ ap (λ (bs : List ℕ). drop (problem_length bs) bs) is

  pub bad_problem : (n : ℕ) (out : List ℕ) → n ≡ verdict (take (end - 0) more) → (n ≡ 0 → ⊥) → out ≡ refused_line n → SheetTold s out
  bad_problem n out v ne o =
      let e : n ≡ verdict (problem_in s) = v ∙ ap verdict problem_is in
      inr (inl (record { asked = asked; refused = λ z. ne (e ∙ z); says = o ∙ ap refused_line e }))

  pub good_problem : (rule : Rule) (t : ℕ) (bytes text out : List ℕ) → bytes ≡ take (end - 0) more → 0 ≡ verdict (take (end - 0) more) → text ≡ drop end more → rule ≡ rule_of (rule_number s) → t ≡ horizon s → Replied (problem_of bytes) rule t text out ⊎ NoReply (problem_of bytes) t text out → SheetTold s out
  good_problem rule t bytes text out b v x r h told =
      let one = subst (λ (bs : List ℕ). Replied (problem_of bs) rule t text out ⊎ NoReply (problem_of bs) t text out) (b ∙ problem_is) told in
      let two = subst (λ (bs : List ℕ). Replied (problem_of (problem_in s)) rule t bs out ⊎ NoReply (problem_of (problem_in s)) t bs out) (x ∙ answer_is) one in
      let three = subst (λ (q : Rule). Replied (problem_of (problem_in s)) q t (answer_in s) out ⊎ NoReply (problem_of (problem_in s)) t (answer_in s) out) r two in
      let four = subst (λ n. Replied (problem_of (problem_in s)) (rule_of (rule_number s)) n (answer_in s) out ⊎ NoReply (problem_of (problem_in s)) n (answer_in s) out) h three in
      inr (inr (record { asked = asked; granted = sym (v ∙ ap verdict problem_is); tells = four }))
