-- Propagation has one outcome, with one count.
use Rattle.std.proofs.Common.{◌≡◌, ℕ, suc, ◌<◌, ◌⊎◌, List, [], get_or, ℤ, refl, ap, inl, inr, ⊎_elim}
use Rattle.std.proofs.lemmas.Bool.{cases_order}
use Rattle.rules.specs.Clauses.{Clause}
use Rattle.rules.specs.Propagation.{Trail, Forces, Lowest, Conflict, NoneForced, Propagates, halt, force, OutcomeUnique}
use Rattle.rules.proofs.Deciding.{get_or_in}

-- a clause forces one literal at most, and so does the lowest that forces one
same_forced : (trail : Trail) (c : Clause) (l m : ℤ) → Forces trail c l → Forces trail c m → l ≡ m
same_forced trail c l m h k = k.no_other l h.member h.is_open

pub same_lowest : (cs : List Clause) (t : Trail) (i j : ℕ) (l m : ℤ) → Lowest cs t i l → Lowest cs t j m → l ≡ m
same_lowest cs t i j l m h k = ⊎_elim (λ e. same_forced t (get_or cs j []) l m (rw e at h.forces) k.forces) (λ (o : (i < j) ⊎ (j < i)). ⊎_elim (λ r. absurd (k.first i r l h.forces)) (λ r. absurd (h.first j r m k.forces)) o) (cases_order i j)

-- propagation has come to an end
abbrev Ended : List Clause → Trail → Type 0
Ended cs e = Conflict cs e ⊎ ((Conflict cs e → ⊥) × NoneForced cs e)

at_end : {cs : List Clause} {t : Trail} {i : ℕ} {l : ℤ} → (Conflict cs t → ⊥) → Lowest cs t i l → Ended cs t → ⊥
at_end u low (inl s) = u s
at_end {cs} {i = i} {l = l} u low (inr (n, q)) = q (get_or cs i []) (get_or_in cs i low.within) l low.forces

pub one_end : {cs : List Clause} {t e f : Trail} {m n : ℕ} → Propagates cs t m e → Ended cs e → Propagates cs t n f → Ended cs f → (e ≡ f) × (m ≡ n)
one_end halt s halt k = (refl, refl)
one_end halt s (force u low more) k = absurd (at_end u low s)
one_end (force u low more) s halt k = absurd (at_end u low k)
one_end {cs} {t} (force {i = i} {l = l} u low more) s (force {i = j} {l = m} v low' more') k =
    let r = one_end more s (rw (same_lowest cs t j i m l low' low) at more') k in (r.0, ap suc r.1)

pub outcome_unique_lem : OutcomeUnique
outcome_unique_lem cs lemma =
    record {
      never_both = λ m n (e, a, s) (f, b, u, q). u (rw (one_end a (inl s) b (inr (u, q))).0 at s);
      shown_count = λ m n (e, a, s) (f, b, k). (one_end a (inl s) b (inl k)).1;
      not_shown_count = λ m n (e, a, u, q) (f, b, v, r). (one_end a (inr (u, q)) b (inr (v, r))).1;
    }
