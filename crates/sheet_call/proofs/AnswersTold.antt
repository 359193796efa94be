-- What reading an answer into a byte for each variable comes to.
use Rattle.std.proofs.Common.{◌≡◌, ℕ, ◌+◌, ◌≤◌, Bool, true, false, cond, ◌⊎◌, List, [], ◌∷◌, map, length, ℤ, sym, ap, ◌∙◌, subst, inl, inr, arith}
use Rattle.std.specs.List.{range_with_len, AllByRecursion}
use Rattle.std.proofs.lemmas.List.{length-map}
use Rattle.rules.specs.declared.refusal.Refusal.{Refusal}
use Rattle.rules.specs.Lists.{any}
use Rattle.rules.specs.Refusals.{number}
use Rattle.rules.specs.Problems.{Problem}
use Rattle.rules.specs.Formula.{vars}
use Rattle.checking.specs.Told.{TruthBytes}
use Rattle.answers.specs.Rendering.{Rendering}
use Rattle.answers.specs.Answered.{affirms, truth_value, truth_of, BadMemory, NoAnswer}
use Rattle.requests.specs.Printed.{refused_line}
use Rattle.sheet_call.specs.Replied.{NoReply}
use Rattle.sheet_call.proofs.ModelTold.{count_long}

bit : (b : Bool) → cond b 1 0 ≤ 1
bit true = omega arith
bit false = omega arith

all_bits_lem : (literals : List ℤ) (is : List ℕ) → AllByRecursion (λ b. b ≤ 1) (map (λ i. truth_value literals (i + 1)) is)
all_bits_lem literals [] = tt
all_bits_lem literals (i ∷ is) = (bit (any (affirms (i + 1)) literals), all_bits_lem literals is)

-- the bytes that an answer tells are truth bytes
pub truth_bytes : (n v : ℕ) (literals : List ℤ) (after : List ℕ) → n ≡ v → after ≡ truth_of n literals → TruthBytes v after
truth_bytes n v literals after e t = record {
  long = ap length t ∙ length-map (range_with_len 0 n) (λ i. truth_value literals (i + 1)) ∙ count_long 0 n ∙ e;
  bits = subst (AllByRecursion (λ b. b ≤ 1)) (sym t) (all_bits_lem literals (range_with_len 0 n));
}

-- the only refusal that is left is 13
pub only_13 : (p : Problem) (t n : ℕ) (text before after : List ℕ) (e : Refusal) → length before ≡ n → n ≡ vars p t → BadMemory n before after e ⊎ NoAnswer n text before after e → (out : List ℕ) → out ≡ refused_line (number e) → NoReply p t text out
only_13 p t n text before after e l v (inl h) out o = absurd (h.size l)
only_13 p t n text before after e l v (inr h) out o = record {
  none = λ status literals r. h.none status literals (subst (λ k. Rendering k text status literals) (sym v) r);
  says = o ∙ ap refused_line h.number_is;
}
