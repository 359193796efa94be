-- What stands in a range of numbers that is filtered, and in a set of facts.
use Rattle.std.proofs.Common.{◌≡◌, ℕ, zero, suc, ◌+◌, ◌<◌, ◌≤◌, Bool, false, cond, ◌⊎◌, List, [], ◌∷◌, filter, refl, ap, ◌∙◌, inl, inr, ⊎_elim, arith}
use Rattle.std.specs.List.{range_with_len}
use Rattle.std.proofs.lemmas.Bool.{cases_lt}
use Rattle.rules.specs.Lists.{has}
use Rattle.rules.proofs.Tests.{same, is_false, has_in, in_has}
use Rattle.rules.proofs.Members.{counting_in, in_counting, kept_in, in_kept}
use Rattle.steps.specs.declared.fact_set.FactSet.{FactSet}
use Rattle.steps.specs.Sets.{bit, facts_in}

-- in the range a number stands where it passes
pub has_within : (p : ℕ → Bool) (a n f : ℕ) → a ≤ f → f < a + n → has f (filter p (range_with_len a n)) ≡ p f
has_within p a n f h k =
    let all = range_with_len a n in
    same _ _
    (λ e. (kept_in p all f (has_in f _ e)).1)
    (λ e. in_has f _ (in_kept p all f (in_counting a n f h k) e))

pub has_outside : (p : ℕ → Bool) (a n f : ℕ) → (f < a) ⊎ (a + n ≤ f) → has f (filter p (range_with_len a n)) ≡ false
has_outside p a n f o =
    is_false _
    (λ e.
    let m : (a ≤ f) × (f < a + n) = counting_in a n f (kept_in p (range_with_len a n) f (has_in f _ e)).0 in
    ⊎_elim (λ (l : f < a). omega arith) (λ (u : a + n ≤ f). omega arith) o)

pub has_past : (p : ℕ → Bool) (a n f : ℕ) → a + n ≤ f → has f (filter p (range_with_len a n)) ≡ false
has_past p a n f h = has_outside p a n f (inr h)

-- a fact from 1 to 64 is in the set where its bit is set
pub has_bit : (s : FactSet) (f : ℕ) → 1 ≤ f → f ≤ 64 → has f (facts_in s) ≡ bit s.bits f
unfolding facts_in
has_bit s f h k = has_within (bit s.bits) 1 64 f h (omega arith)

-- and no other fact is
pub has_no_bit : (s : FactSet) (f : ℕ) → (f < 1) ⊎ (65 ≤ f) → has f (facts_in s) ≡ false
unfolding facts_in
has_no_bit s f h = has_outside (bit s.bits) 1 64 f h

-- a number that is not from 1 to 64
pub outside : (f : ℕ) → (1 ≤ f → f ≤ 64 → ⊥) → (f < 1) ⊎ (65 ≤ f)
outside f h = ⊎_elim (λ (l : f < 1). inl l) (λ (l : 1 ≤ f). ⊎_elim (λ (u : f < 65). absurd (h l (omega arith))) (λ (u : 65 ≤ f). inr u) (cases_lt f 65)) (cases_lt f 1)

-- the same, as a test of a range leaves it
abbrev pub Outside : ℕ → Type 0
Outside f = (f < 1) ⊎ ((1 ≤ f) × (64 < f))

pub not_within : (f : ℕ) → Outside f → (f < 1) ⊎ (65 ≤ f)
not_within f (inl l) = inl l
not_within f (inr u) = inr (omega (arith, u.1))

pub no_bit_outside : (s : FactSet) (f : ℕ) → Outside f → has f (facts_in s) ≡ false
no_bit_outside s f o = has_no_bit s f (not_within f o)

-- what passes in two ranges with one test is the same where the test fails past the shorter
kept_none : (p : ℕ → Bool) (a n : ℕ) → ((f : ℕ) → a ≤ f → p f ≡ false) → filter p (range_with_len a n) ≡ []
kept_none p a zero h = refl
kept_none p a (suc n) h = rw (h a (omega arith)) (kept_none p (a + 1) n (λ f k. h f (omega arith)))

pub kept_shorter : (p : ℕ → Bool) (a m n : ℕ) → m ≤ n → ((f : ℕ) → a + m ≤ f → p f ≡ false) → filter p (range_with_len a n) ≡ filter p (range_with_len a m)
kept_shorter p a zero n l h = kept_none p a n (λ f k. h f (omega arith))
kept_shorter p a (suc m) zero l h = absurd (omega arith)
kept_shorter p a (suc m) (suc n) l h =
    ap (λ (rest : List ℕ). cond (p a) (a ∷ rest) rest) (kept_shorter p (a + 1) m n (omega arith) (λ f k. h f (omega arith)))

-- two tests that agree in the range keep the same
pub kept_same : (p q : ℕ → Bool) (a n : ℕ) → ((f : ℕ) → a ≤ f → f < a + n → p f ≡ q f) → filter p (range_with_len a n) ≡ filter q (range_with_len a n)
kept_same p q a zero h = refl
kept_same p q a (suc n) h =
    ap (λ (b : Bool). cond b (a ∷ filter p (range_with_len (a + 1) n)) (filter p (range_with_len (a + 1) n))) (h a (omega arith) (omega arith))
    ∙ ap (λ (rest : List ℕ). cond (q a) (a ∷ rest) rest) (kept_same p q (a + 1) n (λ f k l. h f (omega arith) (omega arith)))
