-- The sets by code, one pair more at a time, and what the whole table lists.
use Rattle.std.proofs.Common.{◌≡◌, ℕ, zero, suc, ◌+◌, ◌*◌, ◌<◌, ◌≤◌, Bool, false, ◌&&◌, ◌||◌, eqb, leb, List, [], get_or, set, replicate, sym, refl, ap, ◌∙◌, ⊎_elim, add-one, arith}
use Rattle.std.proofs.lemmas.List.{get_or-replicate, length-replicate, length-set, get_or-set_same, get_or-set_other, get_or_default}
use Rattle.std.proofs.lemmas.Bool.{cases_eq}
use Rattle.std.proofs.lemmas.Bool.Decides.{nat_tests}
use Rattle.std.specs.List.{range_with_len, list_any}
use Rattle.rules.specs.Lists.{any, has, shares}
use Rattle.steps.specs.declared.fact_set.FactSet.{FactSet}
use Rattle.steps.specs.Sets.{bit, facts_in}
use Rattle.steps.proofs.Kept.{has_bit, kept_same, kept_shorter}
use Rattle.problem.specs.Bytes.{facts, steps, pairs, code, fact, Sized}
use Rattle.problem.specs.Listed.{among, has_pair, listed}
use Rattle.problem.specs.Verdict.{scan, clashes}
use Rattle.problem.specs.Collected.{empty_set, Collects}
use Rattle.problem.proofs.Lawful.{scan_known}
use Rattle.problem.proofs.Scans.{none_among}

pub code_in : (s : List ℕ) (n k : ℕ) → scan s n ≡ 0 → k < n → steps s ≤ 128 → code s k < 516
code_in s n k h l few = let w = scan_known s n k h l in omega (arith, w.0)

-- a pair that passed has a code and a fact that a table has room for
pub known_pair : (s : List ℕ) (f a p i : ℕ) → Sized s f a p → scan s p ≡ 0 → i < p → (code s i < 516) × (1 ≤ fact s i) × (fact s i ≤ 64)
known_pair s f a p i z h l =
    let w = scan_known s p i h l in
    let few : facts s ≤ 64 = omega (arith, z.is_facts, z.few_facts) in
    (omega (arith, w.0, z.is_steps, z.few_steps), w.1, omega (arith, w.2))

pub collect_none : (s : List ℕ) (x : FactSet) → facts_in x ≡ [] → Collects s (replicate 516 x) 0
collect_none s x e = record {
  long = length-replicate 516 x;
  lists = λ c f l. ap (λ (y : FactSet). has f (facts_in y)) (get_or-replicate 516 c x empty_set l) ∙ ap (has f) e;
}

module _ (s : List ℕ) (sets : List FactSet) (i c f : ℕ) (x d : FactSet) (h : Collects s sets i) (p : c ≡ code s i) (q : f ≡ fact s i) (l : c < 516) (lo : 1 ≤ f) (hi : f ≤ 64) (adds : (g : ℕ) → has g (facts_in x) ≡ ((eqb g f && (leb 1 f && leb f 64)) || has g (facts_in (get_or sets c d)))) where
  here : (g : ℕ) → has g (facts_in x) ≡ ((eqb (code s i) c && eqb (fact s i) g) || among s c g i)
  here g =
      let same : get_or sets c d ≡ get_or sets c empty_set = get_or_default sets c d empty_set (omega (arith, h.long)) in
      let added = adds g ∙ ap (λ (y : FactSet). (eqb g f && (leb 1 f && leb f 64)) || has g (facts_in y)) same in
      let before = h.lists c g l in
      grind (arith, nat_tests)

  pub collect_more : Collects s (set sets c x) (i + 1)
  collect_more = record {
    long = length-set sets c x ∙ h.long;
    lists = λ e g k. rw add-one
        (⊎_elim
        (λ (z : e ≡ c).
        let new : get_or (set sets c x) e empty_set ≡ x = ap (λ n. get_or (set sets c x) n empty_set) z ∙ get_or-set_same sets c x empty_set (omega (arith, h.long)) in
        ap (λ (y : FactSet). has g (facts_in y)) new ∙ here g ∙ ap (λ n. (eqb (code s i) n && eqb (fact s i) g) || among s n g i) (sym z))
        (λ (ne : e ≡ c → ⊥).
        let before = h.lists e g k in
        rw (get_or-set_other sets c e x empty_set ne) (grind (arith, nat_tests)))
        (cases_eq e c));
  }

-- no pair that passed has a fact that there is not
past_facts : (s : List ℕ) (c f : ℕ) → scan s (pairs s) ≡ 0 → facts s < f → has_pair s c f ≡ false
past_facts s c f h far = none_among s c f (pairs s) (λ k lt e g. let w = scan_known s (pairs s) k h lt in omega (arith, w.2, g))

-- a set that has just the facts under a code is their list
pub set_is_listed : (s : List ℕ) (x : FactSet) (c : ℕ) → facts s ≤ 64 → scan s (pairs s) ≡ 0 → ((f : ℕ) → has f (facts_in x) ≡ has_pair s c f) → facts_in x ≡ listed s c
unfolding facts_in
set_is_listed s x c few h e =
    kept_same (bit x.bits) (has_pair s c) 1 64 (λ f l u. sym (has_bit x f l (omega arith)) ∙ e f)
    ∙ kept_shorter (has_pair s c) 1 (facts s) 64 few (λ f l. past_facts s c f h (omega arith))

-- the sets of step a's second and third code have a common fact
abbrev pub meeting : List FactSet → ℕ → Bool
meeting sets a = shares (facts_in (get_or sets (4 * a + 1) empty_set)) (facts_in (get_or sets (4 * a + 2) empty_set))

module _ (s : List ℕ) (sets : List FactSet) (n : ℕ) (e : n ≡ pairs s) (few : facts s ≤ 64) (h : scan s n ≡ 0) (t : Collects s sets n) where
  pub under_listed : (c : ℕ) (d : FactSet) → c < 516 → facts_in (get_or sets c d) ≡ listed s c
  under_listed c d l = set_is_listed s (get_or sets c d) c few (ap (scan s) (sym e) ∙ h) (λ f. ap (λ (y : FactSet). has f (facts_in y)) (get_or_default sets c d empty_set (omega (arith, t.long))) ∙ t.lists c f l ∙ ap (among s c f) e)

  pub meets_clashes : (a : ℕ) (x y : FactSet) → a ≤ 128 → shares (facts_in (get_or sets (4 * a + 1) x)) (facts_in (get_or sets (4 * a + 2) y)) ≡ clashes s a
  meets_clashes a x y l = λ i. shares (under_listed (4 * a + 1) x (omega arith) i) (under_listed (4 * a + 2) y (omega arith) i)

  pub meeting_clashes : (a k : ℕ) → a + k ≤ 129 → list_any (meeting sets) (range_with_len a k) ≡ any (clashes s) (range_with_len a k)
  meeting_clashes a zero l = refl
  meeting_clashes a (suc k) l = λ i. meets_clashes a empty_set empty_set (omega arith) i || meeting_clashes (a + 1) k (omega arith) i
