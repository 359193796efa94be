-- What the marks left by the lines make of the answer.
use Rattle.std.proofs.Common.{◌≡◌, ℕ, ◌%◌, ◌^◌, ◌<◌, List, map, length, replicate, Some, None, Option, sym, ap, ◌∙◌}
use Rattle.std.proofs.lemmas.List.{length-replicate}
use Rattle.rules.specs.declared.refusal.Refusal.{Refusal}
use Rattle.rules.specs.Refusals.{number}
use Rattle.answers.specs.declared.status.Status.{Status}
use Rattle.answers.specs.Answered.{AnAnswer, NoAnswer}
use Rattle.answers.specs.Following.{answer_of, mark}
use Rattle.answers.proofs.Marking.{renders, no_rendering}

module _ (n : ℕ) (below : n < 2 ^ 64) (text before zeros : List ℕ) (size : length before ≡ n) (cleared : zeros ≡ replicate (length before) 0) where
  all_zero : zeros ≡ replicate n 0
  all_zero = cleared ∙ ap (λ k. replicate k 0) size

  from_zeros : (o : Option (Status × List ℕ)) → answer_of (length zeros) mark zeros text ≡ o → answer_of n mark (replicate n 0) text ≡ o
  from_zeros o h =
      let long : length zeros ≡ n = ap length all_zero ∙ length-replicate n 0 in
      ap (λ m. answer_of n mark m text) (sym all_zero) ∙ ap (λ k. answer_of k mark zeros text) (sym long) ∙ h

  pub granted : (status : Status) (marks after : List ℕ) → answer_of (length zeros) mark zeros text ≡ Some (status, marks) → after ≡ map (λ b. b % 2) marks → AnAnswer n text before after status
  granted status marks after h e =
      let r = renders n below text status marks (from_zeros (Some (status, marks)) h) in
      record { size = size; literals = r.0; renders = r.1; told = e ∙ r.2 }

  pub refused : (marks after : List ℕ) (e : Refusal) → number e ≡ 13 → answer_of (length zeros) mark zeros text ≡ None → length marks ≡ n → after ≡ replicate (length marks) 0 → NoAnswer n text before after e
  refused marks after e is h long f = record { number_is = is; size = size; none = no_rendering n below text (from_zeros None h); cleared = f ∙ ap (λ k. replicate k 0) long }
