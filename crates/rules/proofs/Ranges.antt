-- Every clause of the formula is a good one: at most 130 literals, none 0 or beyond the formula's variables.
use Rattle.std.proofs.Common.{◌≡◌, ℕ, zero, suc, ◌+◌, ◌-◌, ◌<◌, ◌≤◌, Bool, true, false, cond, not, eqb, List, [], ◌∷◌, map, length, ℤ, nat_abs, filter, refl, mul-le-mul_right, suc-mul, arith}
use Rattle.std.specs.List.{range_with_len, AllByRecursion}
use Rattle.std.proofs.ByRecursion.{All-weaker}
use Rattle.std.proofs.lemmas.Bool.{le-ltb, ne_eqb}
use Rattle.std.proofs.lemmas.List.FromFn.{length-range_with_len}
use Rattle.std.proofs.lemmas.List.Filters.{length-filter_both}
use Rattle.std.proofs.lemmas.List.{length-map}
use Rattle.rules.specs.Lists.{In, any, has, each}
use Rattle.rules.specs.Steps.{Rule}
use Rattle.rules.specs.Problems.{Problem, facts_of, steps_of}
use Rattle.rules.specs.Clauses.{Clause, aye, nay, bad_literal, bad_clause}
use Rattle.rules.specs.Formula.{width, vars, fact_var, step_var, start_clauses, slot_clauses, formula}
use Rattle.rules.proofs.Members.{counting_in, kept_in, all_in, in_all, all_append_is, all_each_is, all_only_is, all-is}

-- the literal's size is that of a variable
abbrev Near : ℕ → ℤ → Type 0
Near widest l = (1 ≤ nat_abs l) × (nat_abs l ≤ widest)

nay_size : (v : ℕ) → nat_abs (nay v) ≡ v
nay_size zero = refl
nay_size (suc v) = refl

aye_near : (widest v : ℕ) → 0 < v → v ≤ widest → Near widest (aye v)
aye_near widest v h k = (h, k)

nay_near : (widest v : ℕ) → 0 < v → v ≤ widest → Near widest (nay v)
nay_near widest v h k = (omega (arith, nay_size v), omega (arith, nay_size v))

start_near : (b : Bool) (widest v : ℕ) → 0 < v → v ≤ widest → Near widest (cond b (aye v) (nay v))
start_near true widest v h k = aye_near widest v h k
start_near false widest v h k = nay_near widest v h k

module _ (p : Problem) (rule : Rule) (horizon widest : ℕ) (wide : vars p horizon ≤ widest) where
  fact_up : (t f : ℕ) → t ≤ horizon → In f (facts_of p) → (0 < fact_var p t f) × (fact_var p t f ≤ widest)
  fact_up t f h m = (omega (arith, counting_in 1 p.facts f m), omega (arith, counting_in 1 p.facts f m, mul-le-mul_right (width p) h))

  step_up : (u a : ℕ) → u < horizon → 0 < a → a ≤ p.steps → (0 < step_var p u a) × (step_var p u a ≤ widest)
  step_up u a h one top = (omega arith, omega (arith, mul-le-mul_right (width p) h, suc-mul u (width p)))

  fact_aye : (t f : ℕ) → t ≤ horizon → In f (facts_of p) → Near widest (aye (fact_var p t f))
  fact_aye t f h m = let r = fact_up t f h m in aye_near widest (fact_var p t f) r.0 r.1

  fact_nay : (t f : ℕ) → t ≤ horizon → In f (facts_of p) → Near widest (nay (fact_var p t f))
  fact_nay t f h m = let r = fact_up t f h m in nay_near widest (fact_var p t f) r.0 r.1

  step_nay : (u a : ℕ) → u < horizon → 0 < a → a ≤ p.steps → Near widest (nay (step_var p u a))
  step_nay u a h one top = let r = step_up u a h one top in nay_near widest (step_var p u a) r.0 r.1

  movers : (u : ℕ) → u < horizon → (t : ℕ → Bool) → (a : ℕ) → In a (filter t (steps_of p)) → Near widest (aye (step_var p u a))
  movers u h t a m = let k = counting_in 1 p.steps a (kept_in t (steps_of p) a m).0 in let r = step_up u a h (omega arith) (omega arith) in aye_near widest (step_var p u a) r.0 r.1

  slot_near : (u : ℕ) → u < horizon → AllByRecursion (AllByRecursion (Near widest)) (slot_clauses p rule u)
  slot_near u h =
      let before : u ≤ horizon = omega arith in
      let step' = λ (a : ℕ) (m : In a (steps_of p)). let k = counting_in 1 p.steps a m in step_nay u a h (omega arith) (omega arith) in
      simp all-is (
        λ a m f n t. (step' a m, (fact_aye u f before n, tt)),
        (
          λ a m f n t. (step' a m, (fact_aye (suc u) f h n, tt)),
          (
            λ a m f n t. (step' a m, (fact_nay (suc u) f h n, tt)),
            (
              λ f m. ((fact_aye u f before m, (fact_nay (suc u) f h m, movers u h (λ a. has f (p.sets a)))), ((fact_nay u f before m, (fact_aye (suc u) f h m, movers u h (λ a. has f (p.clears a)))), tt)),
              λ a m b n t. (step' a m, (step_nay u b h (omega (arith, counting_in (a + 1) (p.steps - a) b n)) (omega (arith, counting_in 1 p.steps a m, counting_in (a + 1) (p.steps - a) b n)), tt)),
            ),
          ),
        ),
      )

  formula_near : AllByRecursion (AllByRecursion (Near widest)) (formula p rule horizon)
  formula_near =
      simp (all_append_is (AllByRecursion (Near widest)) (start_clauses p), all_append_is (AllByRecursion (Near widest)) (each (slot_clauses p rule) (range_with_len 0 horizon)), all_each_is {Z = ℕ} (AllByRecursion (Near widest)), all_only_is (AllByRecursion (Near widest))) (
        λ f m. ((let r = fact_up 0 f (omega arith) m in start_near (has f p.start) widest (fact_var p 0 f) r.0 r.1, tt), tt),
        (
          λ u m. slot_near u (omega (arith, counting_in 0 horizon u m)),
          λ f m t. (fact_aye horizon f (omega arith) m, tt),
        ),
      )

fit : (widest : ℕ) (l : ℤ) → Near widest l → bad_literal widest l ≡ false
fit widest l h = let zero' : eqb (nat_abs l) 0 ≡ false = ne_eqb (nat_abs l) 0 (λ e. omega arith) in rw (zero', le-ltb widest (nat_abs l) h.1)

fits : (widest : ℕ) (c : Clause) → AllByRecursion (Near widest) c → any (bad_literal widest) c ≡ false
fits widest [] h = refl
fits widest (l ∷ c) h = rw (fit widest l h.0) (fits widest c h.1)

pub formula_sized : (p : Problem) (rule : Rule) (horizon widest : ℕ) → vars p horizon ≤ widest → AllByRecursion (λ c. any (bad_literal widest) c ≡ false) (formula p rule horizon)
formula_sized p rule horizon widest wide = All-weaker (AllByRecursion (Near widest)) (λ c. any (bad_literal widest) c ≡ false) (fits widest) (formula p rule horizon) (formula_near p rule horizon widest wide)

-- lengths
kept_short : (t : ℕ → Bool) (xs : List ℕ) → length (filter t xs) ≤ length xs
kept_short t xs = omega (arith, length-filter_both t (λ x. not (t x)) (λ _. refl) xs)

module _ (p : Problem) (rule : Rule) (horizon : ℕ) (few : p.steps ≤ 128) where
  abbrev Short : Clause → Type 0
  Short c = length c ≤ 130

  kept_few : (u : ℕ) (t : ℕ → Bool) → length (map (λ a. aye (step_var p u a)) (filter t (steps_of p))) ≤ 128
  kept_few u t = omega (arith, length-map (filter t (steps_of p)) (λ a. aye (step_var p u a)), kept_short t (steps_of p), length-range_with_len 1 p.steps)

  slot_short : (u : ℕ) → AllByRecursion Short (slot_clauses p rule u)
  slot_short u =
      simp all-is (
        λ a m f n t. omega arith,
        (
          λ a m f n t. omega arith,
          (
            λ a m f n t. omega arith,
            (
              λ f m. (omega (arith, kept_few u (λ a. has f (p.sets a))), (omega (arith, kept_few u (λ a. has f (p.clears a))), tt)),
              λ a m b n t. omega arith,
            ),
          ),
        ),
      )

  short_formula : AllByRecursion Short (formula p rule horizon)
  short_formula =
      simp (all_append_is Short (start_clauses p), all_append_is Short (each (slot_clauses p rule) (range_with_len 0 horizon)), all_each_is {Z = ℕ} Short, all_only_is Short) (
        λ f m. (omega arith, tt),
        (λ u m. slot_short u, λ f m t. omega arith),
      )

pub formula_short : (p : Problem) (rule : Rule) (horizon : ℕ) → p.steps ≤ 128 → AllByRecursion (λ c. length c ≤ 130) (formula p rule horizon)
formula_short p rule horizon few = short_formula p rule horizon few

pub formula_good : (p : Problem) (rule : Rule) (horizon widest : ℕ) → p.steps ≤ 128 → vars p horizon ≤ widest → AllByRecursion (λ c. bad_clause widest c ≡ false) (formula p rule horizon)
formula_good p rule horizon widest few wide =
    let sized = formula_sized p rule horizon widest wide in
    let short' = formula_short p rule horizon few in
    in_all (λ c. bad_clause widest c ≡ false) (formula p rule horizon) (λ c m.
    rw (le-ltb 130 (length c) (all_in (λ c. length c ≤ 130) (formula p rule horizon) short' c m)) (all_in (λ c. any (bad_literal widest) c ≡ false) (formula p rule horizon) sized c m))
