-- How many digits a number has, and what a literal's text is.
use Rattle.std.proofs.Common.{◌≡◌, ℕ, ◌+◌, ◌/◌, ◌%◌, ◌<◌, ◌≤◌, true, false, [], ◌∷◌, ◌++◌, length, ℤ, pos, negsuc, nat_abs, decimal, sym, ap, ◌∙◌, arith}
use lib.Signed.{lt_z}
use Rattle.std.proofs.lemmas.Fmt.{decimal_digit, decimal_step}
use Rattle.std.proofs.lemmas.List.{length-append}
use Rattle.std.proofs.lemmas.Bool.{true≢false, ltb-true}
use Rattle.text.specs.Lines.{literal_text}

pub one_digit : (n : ℕ) → n < 10 → length (decimal n) ≡ 1
one_digit n h = ap length (decimal_digit n h)

pub digit_more : (n : ℕ) → 10 ≤ n → n < 1000000 → length (decimal n) ≡ length (decimal (n / 10)) + 1
digit_more n h l = ap length (decimal_step n h (omega arith)) ∙ length-append (decimal (n / 10)) ((48 + n % 10) ∷ [])

pub literal_positive : (l : ℤ) (m : ℕ) → lt_z l (pos 0) ≡ false → m ≡ nat_abs l → literal_text l ≡ decimal m ++ (32 ∷ [])
literal_positive (pos n) m h e = ap (λ k. decimal k ++ (32 ∷ [])) (sym e)
literal_positive (negsuc n) m h e = absurd (true≢false h)

pub literal_negative : (l : ℤ) (m : ℕ) → lt_z l (pos 0) ≡ true → m ≡ nat_abs l → literal_text l ≡ 45 ∷ (decimal m ++ (32 ∷ []))
literal_negative (pos n) m h e = absurd (omega (arith, ltb-true n 0 h))
literal_negative (negsuc n) m h e = ap (λ k. 45 ∷ (decimal k ++ (32 ∷ []))) (sym e)
