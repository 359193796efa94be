-- Sets of facts as bits: what each set holds by its bits, and what holds of common bits.
use Rattle.std.proofs.Common.{◌≡◌, ℕ, ◌+◌, ◌-◌, ◌^◌, ◌<◌, ◌≤◌, Bool, true, false, not, MatchBool, ◌&&◌, ◌||◌, eqb, leb, ◌⊎◌, sym, refl, ap, ◌∙◌, inl, inr, ⊎_elim, arith}
use mathlib.Core.Bool.{false≢true}
use Rattle.std.specs.Int.{w64, bit_at, bit_not, trailing_zeros}
use Rattle.std.specs.Int.RustNames.{bit_and, bit_or}
use Rattle.std.proofs.lemmas.Nat.Bits.{bit_at_and, bit_at_or, bit_at_not, bit_at-pow_same, bit_at-pow_other, bit_at-zero, bit_at-trailing_zeros}
use lib.Bits.{and_lt}
use Rattle.std.proofs.lemmas.Bool.{cases_eq, cases_lt, eq-eqb, ne_eqb, eqb-true, eqb-false, not_from_false, not-true, not-false, both_ways, false_from_ne_true, cases_from_iff, le-leb, lt-leb, leb-true, and_from, and_left, and_right, and_parts}
use Rattle.std.proofs.lemmas.Bool.Decides.{nat_tests}
use Rattle.rules.specs.Lists.{has, shares}
use Rattle.steps.specs.declared.fact_set.FactSet.{FactSet}
use Rattle.steps.specs.Sets.{bit, facts_in, Subset}
use Rattle.rules.proofs.Tests.{same, any_in, in_any, has_in, in_has}
use Rattle.steps.proofs.Kept.{Outside, has_bit, has_no_bit, not_within}

abbrev within : ℕ → Bool
within f = leb 1 f && leb f 64

-- a fact is in the set if it is from 1 to 64 and its bit is set
has_is : (s : FactSet) (f : ℕ) → has f (facts_in s) ≡ (within f && bit s.bits f)
has_is s f =
    ⊎_elim
    (λ (l : f < 1). has_no_bit s f (inl l) ∙ sym (and_left (within f) _ (and_left _ _ (lt-leb 1 f l))))
    (λ (l : 1 ≤ f).
    ⊎_elim
    (λ (u : f < 65). has_bit s f l (omega arith) ∙ sym (ap (λ (t : Bool). t && bit s.bits f) (and_from _ _ (le-leb 1 f l) (le-leb f 64 (omega arith)))))
    (λ (u : 64 < f). has_no_bit s f (inr u) ∙ sym (and_left (within f) _ (and_right _ _ (lt-leb f 64 u))))
    (cases_lt f 65))
    (cases_lt f 1)

held : (s : FactSet) (f : ℕ) → has f (facts_in s) ≡ true → (within f ≡ true) × (bit s.bits f ≡ true)
held s f h = and_parts _ _ (sym (has_is s f) ∙ h)

holds : (s : FactSet) (f : ℕ) → within f ≡ true → bit s.bits f ≡ true → has f (facts_in s) ≡ true
holds s f w b = has_is s f ∙ and_from _ _ w b

-- the bits of `|`, `&` and `!`
or_bit : (a b f : ℕ) → bit (bit_or a b) f ≡ (bit a f || bit b f)
or_bit a b f = let e = bit_at_or a b (f - 1) in grind (arith, nat_tests)

and_bit : (a b f : ℕ) → bit (bit_and a b) f ≡ (bit a f && bit b f)
and_bit a b f = let e = bit_at_and a b (f - 1) in grind (arith, nat_tests)

not_bit : (n f : ℕ) → n < 2 ^ 64 → within f ≡ true → bit (bit_not w64 n) f ≡ not (bit n f)
not_bit n f h k =
    let p = and_parts _ _ k in
    let l = leb-true 1 f p.0 in
    let u = leb-true f 64 p.1 in
    let e : bit_at (bit_not w64 n) (f - 1) ≡ 1 - bit_at n (f - 1) = bit_at_not w64 n (f - 1) h (omega arith) in
    grind (arith, nat_tests)

-- the bits of either
pub union_has : (a b r : FactSet) → r.bits ≡ bit_or a.bits b.bits → (f : ℕ) → has f (facts_in r) ≡ (has f (facts_in a) || has f (facts_in b))
union_has a b r e f =
    has_is r f ∙ ap (λ n. within f && bit n f) e ∙ ap (λ t. within f && t) (or_bit a.bits b.bits f) ∙ joined (within f) (bit a.bits f) (bit b.bits f)
    ∙ sym ((λ i. has_is a f i || has_is b f i))
  where
    joined : (w x y : Bool) → (w && (x || y)) ≡ ((w && x) || (w && y))
    joined true x y = refl
    joined false x y = refl

-- the bits of the first without those of the second
pub difference_has : (a b r : FactSet) → b.bits < 2 ^ 64 → r.bits ≡ bit_and a.bits (bit_not w64 b.bits) → (f : ℕ) → has f (facts_in r) ≡ (has f (facts_in a) && not (has f (facts_in b)))
difference_has a b r h e f =
    has_is r f ∙ ap (λ n. within f && bit n f) e ∙ ap (λ t. within f && t) (and_bit a.bits (bit_not w64 b.bits) f)
    ∙ parted (within f) (bit a.bits f) (bit b.bits f) _ (not_bit b.bits f h)
    ∙ sym ((λ i. has_is a f i && not (has_is b f i)))
  where
    parted : (w x y z : Bool) → (w ≡ true → z ≡ not y) → (w && (x && z)) ≡ ((w && x) && not (w && y))
    parted true x y z e = ap (λ t. x && t) (e refl)
    parted false x y z e = refl

-- one bit more
pub with_has : (s : FactSet) (fact : ℕ) → 1 ≤ fact → fact ≤ 64 → (r : FactSet) → r.bits ≡ bit_or s.bits (2 ^ (fact - 1)) → (f : ℕ) → has f (facts_in r) ≡ ((eqb f fact && (leb 1 fact && leb fact 64)) || has f (facts_in s))
with_has s fact h k r e f =
    has_is r f ∙ ap (λ n. within f && bit n f) e ∙ ap (λ t. within f && t) (or_bit s.bits (2 ^ (fact - 1)) f)
    ∙ one_more
    ∙ sym (ap (λ t. (eqb f fact && within fact) || t) (has_is s f))
  where
    one_more : (within f && (bit s.bits f || bit (2 ^ (fact - 1)) f)) ≡ ((eqb f fact && within fact) || (within f && bit s.bits f))
    one_more =
        let same = bit_at-pow_same (fact - 1) in
        let other = bit_at-pow_other (fact - 1) (f - 1) in
        grind (arith, nat_tests)

-- no fact outside 1 to 64 is added
pub with_none : (s : FactSet) (fact : ℕ) → (fact < 1) ⊎ (65 ≤ fact) → (f : ℕ) → has f (facts_in s) ≡ ((eqb f fact && (leb 1 fact && leb fact 64)) || has f (facts_in s))
with_none s fact o f =
    let none : within fact ≡ false = ⊎_elim (λ (l : fact < 1). and_left _ _ (lt-leb 1 fact l)) (λ (u : 65 ≤ fact). and_right _ _ (lt-leb fact 64 u)) o in
    sym (ap (λ t. t || has f (facts_in s)) (and_right (eqb f fact) _ none))

pub with_outside : (s : FactSet) (fact : ℕ) → Outside fact → (f : ℕ) → has f (facts_in s) ≡ ((eqb f fact && (leb 1 fact && leb fact 64)) || has f (facts_in s))
with_outside s fact o f = with_none s fact (not_within fact o) f

-- a number that is not 0 has the bit of a fact, and 0 has none
some_bit : (n : ℕ) → n < 2 ^ 64 → (n ≡ 0 → ⊥) → (f : ℕ) × (within f ≡ true) × (bit n f ≡ true)
some_bit n h ne =
    let k : ℕ = trailing_zeros w64 n in
    let t : (k < 64) × (bit_at n k ≡ 1) × ((i : ℕ) → i < k → bit_at n i ≡ 0) = bit_at-trailing_zeros w64 n (omega arith) h in
    let back : k + 1 - 1 ≡ k = omega arith in
    (k + 1, and_from _ _ (le-leb 1 (k + 1) (omega arith)) (le-leb (k + 1) 64 (omega (arith, t.0))), eq-eqb _ 1 (ap (bit_at n) back ∙ t.1))

no_bit : (n f : ℕ) → bit n f ≡ true → n ≡ 0 → ⊥
no_bit n f h e = absurd (false≢true (sym (ap (λ (b : ℕ). eqb b 1) (bit_at-zero (f - 1))) ∙ (sym (ap (λ (m : ℕ). bit m f) e) ∙ h)))

-- common facts are common bits
pub meets_is : (a b : FactSet) → a.bits < 2 ^ 64 → b.bits < 2 ^ 64 → not (eqb (bit_and a.bits b.bits) 0) ≡ shares (facts_in a) (facts_in b)
meets_is a b p q =
    let n = bit_and a.bits b.bits in
    same _ _
    (λ e.
    let r = some_bit n (and_lt 64 a.bits b.bits p q) (eqb-false n 0 (not-true _ e)) in
    let both = and_parts _ _ (sym (and_bit a.bits b.bits r.0) ∙ r.2) in
    in_any (λ x. has x (facts_in b)) (facts_in a) r.0 (has_in r.0 _ (holds a r.0 r.1 both.0)) (holds b r.0 r.1 both.1))
    (λ e.
    let r = any_in (λ x. has x (facts_in b)) (facts_in a) e in
    let x = held a r.0 (in_has r.0 _ r.1) in
    let y = held b r.0 r.2 in
    not_from_false _ (ne_eqb n 0 (no_bit n r.0 (and_bit a.bits b.bits r.0 ∙ and_from _ _ x.1 y.1))))

-- no bit of the first is outside the second
module _ (a b : FactSet) (p : a.bits < 2 ^ 64) (q : b.bits < 2 ^ 64) where
  subset_when : bit_and a.bits (bit_not w64 b.bits) ≡ 0 → Subset a b
  subset_when e f h =
      let x = held a f h in
      let kept : not (bit b.bits f) ≡ false =
      false_from_ne_true _ (λ m. no_bit _ f (and_bit a.bits (bit_not w64 b.bits) f ∙ and_from _ _ x.1 (not_bit b.bits f q x.0 ∙ m)) e) in
      holds b f x.0 (not-false _ kept)

  subset_only : (bit_and a.bits (bit_not w64 b.bits) ≡ 0 → ⊥) → Subset a b → ⊥
  subset_only ne s =
      let n = bit_and a.bits (bit_not w64 b.bits) in
      let r = some_bit n (and_lt 64 a.bits _ p (omega arith)) ne in
      let both = and_parts _ _ (sym (and_bit a.bits (bit_not w64 b.bits) r.0) ∙ r.2) in
      let y = held b r.0 (s r.0 (holds a r.0 r.1 both.0)) in
      both_ways _ (not-true _ (sym (not_bit b.bits r.0 q r.1) ∙ both.1)) y.1

  pub subset_is : MatchBool (eqb (bit_and a.bits (bit_not w64 b.bits)) 0) (Subset a b) (Subset a b → ⊥)
  subset_is =
      let n = bit_and a.bits (bit_not w64 b.bits) in
      cases_from_iff {b = eqb n 0} {P = Subset a b}
      (λ e. subset_when (eqb-true n 0 e), λ s. ⊎_elim (λ e. eq-eqb n 0 e) (λ ne. absurd (subset_only ne s)) (cases_eq n 0))
