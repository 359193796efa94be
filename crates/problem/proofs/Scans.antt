-- What a scan of the pairs keeps from turn to turn.
use Rattle.std.proofs.Common.{◌≡◌, ℕ, zero, suc, ◌+◌, ◌<◌, ◌≤◌, false, ◌&&◌, eqb, List, Decides, refl, ap, ⊎_elim, add-one, arith}
use Rattle.std.proofs.lemmas.Bool.{cases_lt, cases_Bool}
use Rattle.std.proofs.lemmas.Bool.Decides.{Decides-below_or, Decides-and, Decides-eqb, nat_tests}
use Rattle.problem.specs.Bytes.{code, fact}
use Rattle.problem.specs.Listed.{among}
use Rattle.problem.specs.Verdict.{scan, pair_verdict}

pub scan_more : (s : List ℕ) (i : ℕ) → scan s i ≡ 0 → scan s (i + 1) ≡ pair_verdict s i
scan_more s i h = rw (add-one i) (grind (arith, nat_tests))

-- the first refusal stays
pub scan_stays : (s : List ℕ) (m n : ℕ) → m ≤ n → (scan s m ≡ 0 → ⊥) → scan s n ≡ scan s m
scan_stays s m zero h ne = let z : m ≡ 0 = omega arith in absurd (ne (ap (scan s) z))
scan_stays s m (suc n) h ne =
    ⊎_elim
    (λ l. let ih = scan_stays s m n (omega arith) ne in grind (arith, nat_tests))
    (λ l. let e : suc n ≡ m = omega arith in ap (scan s) e)
    (cases_lt m (suc n))

pub among_decides : (s : List ℕ) (c f n : ℕ) → Decides (among s c f n) ((k : ℕ) × (k < n) × ((code s k ≡ c) × (fact s k ≡ f)))
among_decides s c f n =
    Decides-below_or (λ k. eqb (code s k) c && eqb (fact s k) f) (λ k. (code s k ≡ c) × (fact s k ≡ f)) (among s c f) (λ k. Decides-and _ _ (Decides-eqb (code s k) c) (Decides-eqb (fact s k) f)) refl (λ _. refl) n

-- the pair of code c and fact f is not at k
abbrev pub NotAt : List ℕ → ℕ → ℕ → ℕ → Type 0
NotAt s c f k = code s k ≡ c → fact s k ≡ f → ⊥

pub none_among : (s : List ℕ) (c f n : ℕ) → ((k : ℕ) → k < n → NotAt s c f k) → among s c f n ≡ false
none_among s c f n not_there =
    ⊎_elim (λ e. let w = (among_decides s c f n).0 e in absurd (not_there w.0 w.1 w.2.0 w.2.1)) (λ e. e) (cases_Bool (among s c f n))
