-- What is left to ask of the clauses from a place on, and that it ends.
use Rattle.std.proofs.Common.{◌≡◌, ◌∙◌, ℕ, zero, suc, ◌+◌, ◌<◌, ◌≤◌, cond, eqb, List, length, ℤ, pos, negsuc, Some, None, Option, ap, sym, refl, subst, arith}
use Rattle.std.proofs.lemmas.Bool.{cond_both, eqb-true, eqb-false}
use Rattle.rules.specs.Clauses.{Clause}
use Rattle.clauses.specs.Walk.{Word}
use Rattle.clauses.specs.Rows.{flat, WalkEnds}
use Rattle.clauses.proofs.Rows.{flat_onto}

-- the length of a clause, k words on
abbrev pub more : ℕ → Option ℕ → Option ℕ
more k None = None
more k (Some n) = Some (k + n)

-- a word fewer is left after each word that is read
pub one_less : (x : ℤ) (cs ds : List Clause) → Word x cs ds → length (flat cs) ≡ suc (length (flat ds))
one_less (pos zero) cs ds h = ap (λ c. length (flat c)) h
one_less (pos (suc n)) cs ds h = ap (λ c. length (flat c)) h.0 ∙ ap length (flat_onto (pos (suc n)) ds h.1)
one_less (negsuc n) cs ds h = ap (λ c. length (flat c)) h.0 ∙ ap length (flat_onto (negsuc n) ds h.1)

pub walk_ends_lem : WalkEnds
walk_ends_lem cs rest word next h = omega (arith, one_less word cs (rest next) h)

not_last : (n v : ℕ) → v < suc n → (v ≡ n → ⊥) → v < n
not_last zero zero l ne = absurd (ne refl)
not_last zero (suc v) l ne = omega (arith, l)
not_last (suc n) zero l ne = omega arith
not_last (suc n) (suc v) l ne = omega (arith, not_last n v (omega (arith, l)) (λ e. ne (ap suc e)))

-- g with its value at k in the place of n
swapped : (ℕ → ℕ) → ℕ → ℕ → ℕ → ℕ
swapped g n k j = cond (eqb (g j) n) (g k) (g j)

-- k + 1 numbers below n that all differ are at most n
pub few_below : (n k : ℕ) (g : ℕ → ℕ) → ((j : ℕ) → j ≤ k → g j < n) → ((i j : ℕ) → i ≤ k → j ≤ k → g i ≡ g j → i ≡ j) → k < n
unfolding swapped
few_below zero k g below differ = omega (arith, below 0 (omega arith))
few_below (suc n) zero g below differ = omega arith
few_below (suc n) (suc k) g below differ =
    let last = suc k in
    let lower : (j : ℕ) → j ≤ k → swapped g n last j < n =
    λ j l. cond_both (eqb (g j) n) (g last) (g j) (λ v. v < n)
    (λ e. not_last n (g last) (below last (omega arith)) (λ q. omega (arith, differ j last (omega arith) (omega arith) (eqb-true (g j) n e ∙ sym q))))
    (λ e. not_last n (g j) (below j (omega arith)) (eqb-false (g j) n e)) in
    let still : (i j : ℕ) → i ≤ k → j ≤ k → swapped g n last i ≡ swapped g n last j → i ≡ j =
    λ i j l m. cond_both (eqb (g i) n) (g last) (g i) (λ v. v ≡ swapped g n last j → i ≡ j)
    (λ e. cond_both (eqb (g j) n) (g last) (g j) (λ w. g last ≡ w → i ≡ j)
    (λ f q. differ i j (omega arith) (omega arith) (eqb-true (g i) n e ∙ sym (eqb-true (g j) n f)))
    (λ f q. absurd (omega (arith, differ last j (omega arith) (omega arith) q))))
    (λ e. cond_both (eqb (g j) n) (g last) (g j) (λ w. g i ≡ w → i ≡ j)
    (λ f q. absurd (omega (arith, differ i last (omega arith) (omega arith) q)))
    (λ f q. differ i j (omega arith) (omega arith) q)) in
    omega (arith, few_below n k (swapped g n last) lower still)

-- places below n from which k and fewer words more than `left` are left, one place for each number
abbrev pub Passed : (ℕ → List Clause) → ℕ → ℕ → ℕ → Type 0
Passed rest n left k = (g : ℕ → ℕ) × ((j : ℕ) → j ≤ k → (g j < n) × (length (flat (rest (g j))) ≡ left + j))

-- so there are at most n
pub few_passed : (rest : ℕ → List Clause) (n left k : ℕ) → Passed rest n left k → k < n
few_passed rest n left k h =
    few_below n k h.0 (λ j l. (h.1 j l).0) (λ i j l m e. omega (arith, (h.1 i l).1, (h.1 j m).1, ap (λ p. length (flat (rest p))) e))

pub passed_first : (rest : ℕ → List Clause) (n place : ℕ) → place < n → Passed rest n (length (flat (rest place))) 0
passed_first rest n place l = (λ j. place, λ j m. (l, omega (arith, m)))

after : ℕ → (ℕ → ℕ) → ℕ → ℕ
after place g zero = place
after place g (suc j) = g j

passed_each : (rest : ℕ → List Clause) (n k place next : ℕ) (g : ℕ → ℕ) → next < n → length (flat (rest place)) ≡ suc (length (flat (rest next))) → ((j : ℕ) → j ≤ k → (g j < n) × (length (flat (rest (g j))) ≡ length (flat (rest place)) + j)) → (j : ℕ) → j ≤ suc k → (after next g j < n) × (length (flat (rest (after next g j))) ≡ length (flat (rest next)) + j)
unfolding after
passed_each rest n k place next g l w h zero m = (l, omega arith)
passed_each rest n k place next g l w h (suc j) m =
    let t = h j (omega (arith, m)) in
    (t.0, omega (arith, t.1, w))

pub passed_more : (rest : ℕ → List Clause) (n k place next : ℕ) (x : ℤ) → next < n → Word x (rest place) (rest next) → Passed rest n (length (flat (rest place))) k → Passed rest n (length (flat (rest next))) (k + 1)
passed_more rest n k place next x l w h =
    let one : suc k ≡ k + 1 = omega arith in
    subst (λ m. Passed rest n (length (flat (rest next))) m) one (after next h.0, passed_each rest n k place next h.0 l (one_less x (rest place) (rest next) w) h.1)
