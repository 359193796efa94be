-- Reading undoes writing, and writing reading.
use Rattle.std.proofs.Common.{◌≡◌, ℕ, zero, suc, ◌^◌, ◌<◌, ◌≤◌, Bool, true, false, cond, not, ◌&&◌, eqb, ltb, leb, List, [], ◌∷◌, length, get_or, ℤ, pos, negsuc, nat_abs, Some, None, decimal, Option, sym, refl, ap, ◌∙◌, subst, ⊎_elim, arith, rules}
use Rattle.std.specs.Char.{is_ascii_digit}
use Rattle.std.specs.Fmt.{signed_decimal}
use Rattle.std.specs.Str.{all_ascii_digits}
use Rattle.std.proofs.lemmas.Str.Parse.{IsNumeralModel, numerals_by_fold}
use Rattle.std.proofs.lemmas.Fmt.{decimal_digit, decimal_nonempty, first_decimal, digits_decimal, digits_value-decimal, decimal-digits_value}
use Rattle.std.proofs.lemmas.Bool.{cond-true, cond-false, and_from, and_parts, cases_eq, ne_eqb, lt-ltb, le-leb, not_from_false, and_left, cases_Bool, eqb-true, leb-true, false≢true}
use Rattle.std.proofs.lemmas.Bool.Decides.{nat_tests}
use Rattle.lines.specs.Numbers.{read_on, plain, size_of, below_0, from_0, number_of, WordsAreNumbers}

own : IsNumeralModel (λ ds. all_ascii_digits ds ≡ true) (read_on 0)
own = numerals_by_fold _ (search rules) read_on (search rules)

no_front : (a b : ℕ) → (ltb 0 b && not (eqb a 48 && ltb 1 b)) ≡ true → (0 < b) × (a ≡ 48 → b ≡ 1)
no_front a b h = (grind (arith, nat_tests), λ e. grind (arith, nat_tests))

-- plain digits are what is written of the number that they write
plain_is : (ds : List ℕ) → plain ds ≡ true → read_on 0 ds < 2 ^ 64 → decimal (read_on 0 ds) ≡ ds
plain_is ds p small =
    let q = and_parts _ _ p in
    let f = no_front (get_or ds 0 0) (length ds) q.0 in
    decimal-digits_value own ds q.1 f.0 f.1 small

front : (ds : List ℕ) → 0 < length ds → 48 < get_or ds 0 0 → (ltb 0 (length ds) && not (eqb (get_or ds 0 0) 48 && ltb 1 (length ds))) ≡ true
front ds some first = and_from _ _ (lt-ltb _ _ some) (not_from_false _ (and_left _ _ (ne_eqb (get_or ds 0 0) 48 (λ e. omega arith))))

plain_decimal : (n : ℕ) → n < 2 ^ 64 → plain (decimal n) ≡ true
plain_decimal n small =
    ⊎_elim
    (λ z. ap (λ k. plain (decimal k)) z ∙ ap plain (decimal_digit 0 (omega arith)))
    (λ ne. and_from _ _ (front (decimal n) (decimal_nonempty n small) (first_decimal n (omega arith) small)) (digits_decimal own n small))
    (cases_eq n 0)

chosen : {A : Type 0} (t : Bool) (y z : A) → cond t (Some y) None ≡ Some z → (t ≡ true) × (y ≡ z)
chosen true y z h = (refl, cc)
chosen false y z h = let e : ◌≡◌ {A = ℕ} 0 1 = cc in absurd (omega arith)

pub size_only : (most : ℕ) (ds : List ℕ) (n : ℕ) → most < 2 ^ 64 → size_of most ds ≡ Some n → (ds ≡ decimal n) × (n ≤ most)
size_only most ds n m h =
    let c = chosen (plain ds && leb (read_on 0 ds) most) (read_on 0 ds) n h in
    let q = and_parts _ _ c.0 in
    let small = leb-true (read_on 0 ds) most q.1 in
    (sym (plain_is ds q.0 (omega arith)) ∙ ap decimal c.1, omega (arith, c.1))

pub size_back : (most n : ℕ) → most < 2 ^ 64 → n ≤ most → size_of most (decimal n) ≡ Some n
size_back most n m l =
    let v = digits_value-decimal own n (omega arith) in
    cond-true _ _ _ (and_from _ _ (plain_decimal n (omega arith)) (le-leb _ _ (omega arith))) ∙ ap Some v

-- no minus stands first in plain digits
first_digit : (b : ℕ) (bs : List ℕ) → all_ascii_digits (b ∷ bs) ≡ true → b ≡ 45 → ⊥
first_digit b bs p e =
    let digit = and_parts _ _ (and_parts (is_ascii_digit b) (all_ascii_digits bs) p).0 in
    let low : 48 ≤ b = leb-true 48 b digit.0 in omega arith

plus : (most : ℕ) (ds : List ℕ) → plain ds ≡ true → number_of most ds ≡ from_0 (size_of most ds)
plus most [] p = absurd (false≢true p)
plus most (b ∷ bs) p = cond-false _ _ _ (ne_eqb b 45 (first_digit b bs (and_parts _ _ p).1))

pub back : (most : ℕ) (z : ℤ) → most < 2 ^ 64 → nat_abs z ≤ most → number_of most (signed_decimal z) ≡ Some z
back most (pos n) m l = plus most (decimal n) (plain_decimal n (omega arith)) ∙ ap from_0 (size_back most n m l)
back most (negsuc n) m l = ap below_0 (size_back most (suc n) m l)

of_plus : (o : Option ℕ) (z : ℤ) → from_0 o ≡ Some z → (n : ℕ) × (o ≡ Some n) × (z ≡ pos n)
of_plus None z h = let e : ◌≡◌ {A = ℕ} 0 1 = cc in absurd (omega arith)
of_plus (Some n) z h = (n, refl, cc)

of_minus : (o : Option ℕ) (z : ℤ) → below_0 o ≡ Some z → (n : ℕ) × (o ≡ Some (suc n)) × (z ≡ negsuc n)
of_minus None z h = let e : ◌≡◌ {A = ℕ} 0 1 = cc in absurd (omega arith)
of_minus (Some zero) z h = let e : ◌≡◌ {A = ℕ} 0 1 = cc in absurd (omega arith)
of_minus (Some (suc n)) z h = (n, refl, cc)

pub only : (most : ℕ) (w : List ℕ) (z : ℤ) → most < 2 ^ 64 → number_of most w ≡ Some z → (w ≡ signed_decimal z) × (nat_abs z ≤ most)
only most [] z m h = let e : ◌≡◌ {A = ℕ} 0 1 = cc in absurd (omega arith)
only most (b ∷ bs) z m h =
    ⊎_elim
    (λ t.
    let o = of_minus (size_of most bs) z (sym (cond-true _ _ _ t) ∙ h) in
    let s = size_only most bs (suc o.0) m o.1 in
    subst (λ y. (b ∷ bs ≡ signed_decimal y) × (nat_abs y ≤ most)) (sym o.2) (ap (λ x. x ∷ bs) (eqb-true b 45 t) ∙ ap (λ x. 45 ∷ x) s.0, s.1))
    (λ f.
    let o = of_plus (size_of most (b ∷ bs)) z (sym (cond-false _ _ _ f) ∙ h) in
    let s = size_only most (b ∷ bs) o.0 m o.1 in
    subst (λ y. (b ∷ bs ≡ signed_decimal y) × (nat_abs y ≤ most)) (sym o.2) (s.0, s.1))
    (cases_Bool (eqb b 45))

-- each byte of a number that is written is a digit, or the minus in front
pub digits_of : (n : ℕ) → n < 2 ^ 64 → (0 < length (decimal n)) × (all_ascii_digits (decimal n) ≡ true)
digits_of n small = (decimal_nonempty n small, digits_decimal own n small)

pub words_are_numbers_lem : WordsAreNumbers
words_are_numbers_lem = record { written = λ most w z m h. only most w z m h; read_back = λ most z m l. back most z m l }
