-- What a verdict of 0 says.
use Rattle.std.proofs.Common.{◌≡◌, ℕ, zero, suc, ◌+◌, ◌-◌, ◌*◌, ◌%◌, ◌<◌, ◌≤◌, Bool, true, false, cond, ◌⊎◌, List, length, sym, ap, ◌∙◌, subst, inl, inr, ⊎_elim, arith}
use Rattle.std.specs.List.{range_with_len}
use Rattle.std.proofs.lemmas.Bool.{cases_lt, or_cases, eqb-true, both_ways}
use Rattle.std.proofs.lemmas.Bool.Decides.{nat_tests}
use Rattle.rules.specs.Lists.{In, any, has}
use Rattle.rules.specs.Problems.{Sound}
use Rattle.rules.proofs.Tests.{in_any, in_has}
use Rattle.rules.proofs.Members.{in_counting, kept_in}
use Rattle.problem.specs.Bytes.{facts, steps, pairs, code, fact}
use Rattle.problem.specs.Listed.{has_pair, listed, problem_of}
use Rattle.problem.specs.Verdict.{headed, known, below, rises, pair_verdict, scan, clashes, verdict}
use Rattle.problem.proofs.Scans.{none_among, NotAt}

-- each test of a verdict of 0
pub record Passed (s : List ℕ) : Type 0 where
  pub head : headed s ≡ true
  pub long : length s ≡ 6 + 4 * pairs s
  pub scanned : scan s (pairs s) ≡ 0
  pub no_clash : any (clashes s) (range_with_len 1 (steps s)) ≡ false

pub passed : (s : List ℕ) → verdict s ≡ 0 → Passed s
passed s h = record {
  head = grind (arith, nat_tests);
  long = grind (arith, nat_tests);
  scanned = grind (arith, nat_tests);
  no_clash = grind (arith, nat_tests);
}

pub lawful_head : (s : List ℕ) → verdict s ≡ 0 → (1 ≤ facts s) × (facts s ≤ 64) × (steps s ≤ 128) × (pairs s ≤ 4096) × (length s ≡ 6 + 4 * pairs s)
lawful_head s h =
    let t = passed s h in
    (grind (arith, nat_tests), grind (arith, nat_tests), grind (arith, nat_tests), grind (arith, nat_tests), t.long)

pub lawful_scan : (s : List ℕ) → verdict s ≡ 0 → scan s (pairs s) ≡ 0
lawful_scan s h = (passed s h).scanned

pub scan_each : (s : List ℕ) (n k : ℕ) → scan s n ≡ 0 → k < n → pair_verdict s k ≡ 0
scan_each s zero k h lt = omega arith
scan_each s (suc n) k h lt =
    let before : scan s n ≡ 0 = grind (arith, nat_tests) in
    let last : pair_verdict s n ≡ 0 = grind (arith, nat_tests) in
    ⊎_elim (λ l. scan_each s n k before l) (λ l. let z : k ≡ n = omega arith in ap (pair_verdict s) z ∙ last) (cases_lt k n)

ways : (a b : Bool) → ◌≡◌ {A = ℕ} (cond a (cond b 0 5) 4) 0 → (a ≡ true) × (b ≡ true)
ways a b h = (grind arith, grind arith)

pub scan_known : (s : List ℕ) (n k : ℕ) → scan s n ≡ 0 → k < n → (code s k ≤ 4 * steps s + 2) × (1 ≤ fact s k) × (fact s k ≤ facts s) × (code s k ≡ 2 → ⊥) × (code s k % 4 ≡ 3 → ⊥)
scan_known s n k h lt =
    let passes = scan_each s n k h lt in
    (grind (arith, nat_tests), grind (arith, nat_tests), grind (arith, nat_tests), grind (arith, nat_tests), grind (arith, nat_tests))

-- one pair is below another
abbrev pub Lt : ℕ → ℕ → ℕ → ℕ → Type 0
Lt c f d g = (c < d) ⊎ ((c ≡ d) × (f < g))

pub lt_trans : (a b c d e f : ℕ) → Lt a b c d → Lt c d e f → Lt a b e f
lt_trans a b c d e f (inl p) (inl q) = inl (omega arith)
lt_trans a b c d e f (inl p) (inr q) = inl (omega arith)
lt_trans a b c d e f (inr p) (inl q) = inl (omega arith)
lt_trans a b c d e f (inr p) (inr q) = inr (omega arith, omega arith)

pub lt_apart : (a b c d : ℕ) → Lt a b c d → a ≡ c → b ≡ d → ⊥
lt_apart a b c d (inl p) e g = omega arith
lt_apart a b c d (inr p) e g = omega arith

pub lt_below : (c f d g : ℕ) → below c f d g ≡ true → Lt c f d g
lt_below c f d g b = grind (arith, nat_tests)

next : (s : List ℕ) (n k : ℕ) → scan s n ≡ 0 → suc k < n → Lt (code s k) (fact s k) (code s (suc k)) (fact s (suc k))
next s n k h lt =
    let back : suc k - 1 ≡ k = omega arith in
    let up : rises s (suc k) ≡ true = (ways (known s (suc k)) (rises s (suc k)) (scan_each s n (suc k) h lt)).1 in
    subst (λ j. Lt (code s j) (fact s j) (code s (suc k)) (fact s (suc k))) back
    (⊎_elim
    (λ z. absurd (let e : suc k ≡ 0 = eqb-true _ _ z in omega arith))
    (λ b. lt_below _ _ _ _ b)
    (or_cases _ _ up))

-- the pairs rise
pub rising : (s : List ℕ) (n j k : ℕ) → scan s n ≡ 0 → j < k → k < n → Lt (code s j) (fact s j) (code s k) (fact s k)
rising s n j zero h l lt = absurd (omega arith)
rising s n j (suc k) h l lt =
    let step = next s n k h lt in
    ⊎_elim
    (λ m. lt_trans _ _ _ _ _ _ (rising s n j k h m (omega arith)) step)
    (λ m. let e : j ≡ k = omega arith in subst (λ i. Lt (code s i) (fact s i) (code s (suc k)) (fact s (suc k))) (sym e) step)
    (cases_lt j k)

module _ (s : List ℕ) (n c f mid : ℕ) (h : scan s n ≡ 0) (inside : mid < n) where
  pub out_below : Lt (code s mid) (fact s mid) c f → (k : ℕ) → k < mid + 1 → NotAt s c f k
  out_below l k lt e g =
      ⊎_elim
      (λ m. lt_apart _ _ c f (lt_trans _ _ _ _ _ _ (rising s n k mid h m inside) l) e g)
      (λ m. let z : k ≡ mid = omega arith in lt_apart _ _ c f l (ap (code s) (sym z) ∙ e) (ap (fact s) (sym z) ∙ g))
      (cases_lt k mid)

  pub out_above : Lt c f (code s mid) (fact s mid) → (k : ℕ) → mid ≤ k → k < n → NotAt s c f k
  out_above l k ge lt e g =
      ⊎_elim
      (λ m. lt_apart c f _ _ (lt_trans _ _ _ _ _ _ l (rising s n mid k h m lt)) (sym e) (sym g))
      (λ m. let z : k ≡ mid = omega arith in lt_apart c f _ _ l (sym (ap (code s) (sym z) ∙ e)) (sym (ap (fact s) (sym z) ∙ g)))
      (cases_lt mid k)

-- no pair is of a step or of a fact that there is not, and none has code 2
module _ (s : List ℕ) (c f : ℕ) (h : verdict s ≡ 0) where
  pub past_steps : 4 * steps s + 2 < c → has_pair s c f ≡ false
  past_steps far = none_among s c f (pairs s) (λ k lt e g. let l = scan_known s (pairs s) k (lawful_scan s h) lt in omega arith)

  pub past_facts : facts s < f → has_pair s c f ≡ false
  past_facts far = none_among s c f (pairs s) (λ k lt e g. let l = scan_known s (pairs s) k (lawful_scan s h) lt in omega arith)

  pub no_fact_0 : f ≡ 0 → has_pair s c f ≡ false
  no_fact_0 z = none_among s c f (pairs s) (λ k lt e g. let l = scan_known s (pairs s) k (lawful_scan s h) lt in omega arith)

  pub no_code_2 : c ≡ 2 → has_pair s c f ≡ false
  no_code_2 z = none_among s c f (pairs s) (λ k lt e g. let l = scan_known s (pairs s) k (lawful_scan s h) lt in l.3 (e ∙ z))

-- no step sets and clears one fact
pub never_both : (s : List ℕ) (a f : ℕ) → verdict s ≡ 0 → In f (listed s (4 * a + 1)) → In f (listed s (4 * a + 2)) → ⊥
never_both s a f h m k =
    let there : has_pair s (4 * a + 2) f ≡ true = (kept_in (has_pair s (4 * a + 2)) (range_with_len 1 (facts s)) f k).1 in
    ⊎_elim
    (λ z. both_ways _ (no_code_2 s (4 * a + 2) f h (omega arith)) there)
    (λ (l : 1 ≤ a).
    ⊎_elim
    (λ far. both_ways _ (past_steps s (4 * a + 2) f h (omega arith)) there)
    (λ near. both_ways _ (passed s h).no_clash
    (in_any (clashes s) (range_with_len 1 (steps s)) a (in_counting 1 (steps s) a l (omega arith))
    (in_any (λ x. has x (listed s (4 * a + 2))) (listed s (4 * a + 1)) f m (in_has f _ k))))
    (cases_lt (steps s) a))
    (cases_lt a 1)

pub lawful_sound : (s : List ℕ) → verdict s ≡ 0 → Sound (problem_of s)
lawful_sound s h = record {
  never_both = λ a f. never_both s a f h;
  needs_in = λ a f m. (kept_in (has_pair s (4 * a)) (range_with_len 1 (facts s)) f m).0;
  sets_in = λ a f m. (kept_in (has_pair s (4 * a + 1)) (range_with_len 1 (facts s)) f m).0;
  clears_in = λ a f m. (kept_in (has_pair s (4 * a + 2)) (range_with_len 1 (facts s)) f m).0;
  goals_in = λ f m. (kept_in (has_pair s 1) (range_with_len 1 (facts s)) f m).0;
}
