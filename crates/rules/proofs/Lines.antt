-- The lines of a sheet, and what its model has at each variable.
use Rattle.std.proofs.Common.{◌≡◌, ℕ, suc, ◌+◌, ◌-◌, ◌*◌, ◌/◌, ◌%◌, ◌<◌, ◌≤◌, true, false, eqb, ltb, ◌⊎◌, List, [], ◌∷◌, sym, refl, ap, ◌∙◌, subst, inl, inr, ⊎_elim, mul-le-mul_right, arith}
use lib.Arith.{digits_div, digits_mod}
use Rattle.std.proofs.lemmas.List.FromFn.{get_or-map-range_with_len}
use Rattle.std.proofs.lemmas.Bool.{eqb-true, eq-eqb, lt-ltb, le-ltb}
use Rattle.rules.specs.Lists.{In, only}
use Rattle.rules.specs.declared.line.Line.{Line}
use Rattle.rules.specs.Problems.{Problem, facts_of, steps_of}
use Rattle.rules.specs.Clauses.{value}
use Rattle.rules.specs.Formula.{width, fact_var, step_var, vars}
use Rattle.rules.specs.Sheets.{Earlier, Rising, Sheet, slot, state, chosen, valued, model}
use Rattle.rules.proofs.Tests.{has_in, in_has}
use Rattle.rules.proofs.Members.{counting_in, each_in, in_each, only_in, in_only, all_in}

pub slot_in : (lines : List Line) (t a : ℕ) → In a (slot lines t) → In (record { slot = t; step = a }) lines
slot_in lines t a m =
    let (l, n, k) = each_in (λ (l : Line). only (eqb l.slot t) l.step) lines a m in
    let r = only_in l.step a (eqb l.slot t) k in
    let e0 : l.slot ≡ t = eqb-true l.slot t r.0 in
    let e : l ≡ record { slot = t; step = a } = λ i. record { slot = e0 i; step = sym r.1 i } in
    subst (λ z. In z lines) e n

pub in_slot : (lines : List Line) (t a : ℕ) → In (record { slot = t; step = a }) lines → In a (slot lines t)
in_slot lines t a m = in_each (λ (l : Line). only (eqb l.slot t) l.step) lines (record { slot = t; step = a }) a m (in_only a (eqb t t) (eq-eqb t t refl))

pub chosen_in : (lines : List Line) (t a : ℕ) → chosen lines t a ≡ true → In a (slot lines t)
chosen_in lines t a e = has_in a (slot lines t) e

pub in_chosen : (lines : List Line) (t a : ℕ) → In a (slot lines t) → chosen lines t a ≡ true
in_chosen lines t a m = in_has a (slot lines t) m

-- two sheets with the same lines
pub rising_unique : (xs ys : List Line) → Rising xs → Rising ys → ((l : Line) → In l xs → In l ys) → ((l : Line) → In l ys → In l xs) → xs ≡ ys
rising_unique [] [] r s f g = refl
rising_unique [] (y ∷ ys) r s f g = absurd (g y (inl refl))
rising_unique (x ∷ xs) [] r s f g = absurd (f x (inl refl))
rising_unique (x ∷ xs) (y ∷ ys) r s f g =
    let heads : x ≡ y = first (f x (inl refl)) (g y (inl refl)) in
    let down : (l : Line) → In l xs → In l ys = λ l m. ⊎_elim (λ (e : l ≡ y). absurd (later x l (all_in (Earlier x) xs r.0 l m) (heads ∙ sym e))) (λ n. n) (f l (inr m)) in
    let up : (l : Line) → In l ys → In l xs = λ l m. ⊎_elim (λ (e : l ≡ x). absurd (later y l (all_in (Earlier y) ys s.0 l m) (sym heads ∙ sym e))) (λ n. n) (g l (inr m)) in
    let tails = rising_unique xs ys r.1 s.1 down up in
    λ i. heads i ∷ tails i
  where
    later : (l m : Line) → Earlier l m → l ≡ m → ⊥
    later l m h e = let e0 : l.slot ≡ m.slot = ap (λ z. z.slot) e in let e1 : l.step ≡ m.step = ap (λ z. z.step) e in omega arith

    first : (x ≡ y) ⊎ In x ys → (y ≡ x) ⊎ In y xs → x ≡ y
    first (inl e) n = e
    first (inr m) (inl e) = sym e
    first (inr m) (inr n) = let h = all_in (Earlier x) xs r.0 y n in let k = all_in (Earlier y) ys s.0 x m in absurd (omega arith)

-- what a model has at each variable
module _ (p : Problem) (horizon : ℕ) (lines : List Line) where
  pub facts_read : (t f : ℕ) → t ≤ horizon → In f (facts_of p) → value (model p horizon lines) (fact_var p t f) ≡ state p lines t f
  facts_read t f h m =
      let r = counting_in 1 p.facts f m in
      let q = mul-le-mul_right (width p) h in
      let j : ℕ = t * width p + (f - 1) in
      let small : f - 1 < width p = omega arith in
      let d : j / width p ≡ t = digits_div t small in
      let e : j % width p ≡ f - 1 = digits_mod t small in
      let b : ltb (f - 1) p.facts ≡ true = lt-ltb (f - 1) p.facts (omega arith) in
      let g : f - 1 + 1 ≡ f = omega arith in
      let v : valued p lines j ≡ state p lines t f = simp (d, e, b, g) in
      get_or-map-range_with_len (valued p lines) 0 (vars p horizon) (fact_var p t f - 1) j false (omega arith) (omega arith) ∙ v

  pub steps_read : (u a : ℕ) → u < horizon → In a (steps_of p) → value (model p horizon lines) (step_var p u a) ≡ chosen lines (suc u) a
  steps_read u a h m =
      let r = counting_in 1 p.steps a m in
      let q = mul-le-mul_right (width p) h in
      let j : ℕ = u * width p + (p.facts + (a - 1)) in
      let small : p.facts + (a - 1) < width p = omega arith in
      let d : j / width p ≡ u = digits_div u small in
      let e : j % width p ≡ p.facts + (a - 1) = digits_mod u small in
      let b : ltb (p.facts + (a - 1)) p.facts ≡ false = le-ltb (p.facts + (a - 1)) p.facts (omega arith) in
      let g : p.facts + (a - 1) - p.facts + 1 ≡ a = omega arith in
      let v : valued p lines j ≡ chosen lines (suc u) a = simp (d, e, b, g) in
      get_or-map-range_with_len (valued p lines) 0 (vars p horizon) (step_var p u a - 1) j false (omega arith) (omega arith) ∙ v

-- a line of a sheet is a line of every list with the same model
same_lines : (p : Problem) (horizon : ℕ) (a b : List Line) → Sheet p horizon a → model p horizon a ≡ model p horizon b → (l : Line) → In l a → In l b
same_lines p horizon a b h e l m =
    let r = counting_in 1 horizon l.slot (h.slots_in l m) in
    let u : ℕ = l.slot - 1 in
    let eu : suc u ≡ l.slot = omega arith in
    let reads = λ (s : List Line). steps_read p horizon s u l.step (omega arith) (h.steps_in l m) in
    let c : chosen a (suc u) l.step ≡ true = in_chosen a (suc u) l.step (in_slot a (suc u) l.step (rw eu m)) in
    let d : chosen b (suc u) l.step ≡ true = sym (reads b) ∙ (ap (λ vs. value vs (step_var p u l.step)) (sym e) ∙ (reads a ∙ c)) in
    rw eu at (slot_in b (suc u) l.step (chosen_in b (suc u) l.step d))

pub one_each : (p : Problem) (horizon : ℕ) (lines other : List Line) → Sheet p horizon lines → Sheet p horizon other → model p horizon lines ≡ model p horizon other → lines ≡ other
one_each p horizon lines other h k e = rising_unique lines other h.rising k.rising (same_lines p horizon lines other h e) (same_lines p horizon other lines k (sym e))
