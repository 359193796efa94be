-- What propagation shows holds in every model.
use Rattle.std.proofs.Common.{◌≡◌, ℕ, zero, suc, Bool, true, false, not, List, [], get_or, ℤ, pos, negsuc, neg_ℤ, sym, refl, ap, ◌∙◌, subst, true≢false}
use mathlib.Core.Bool.{false≢true}
use lib.IntN.{ℤ_discrete}
use Rattle.std.specs.List.{AllByRecursion}
use Rattle.std.proofs.ByRecursion.{All-get_or}
use Rattle.rules.specs.Lists.{In, any}
use Rattle.rules.specs.Clauses.{Clause, Valuation, says, Meets, Satisfies}
use Rattle.rules.specs.Propagation.{Trail, IsFalseOn, NoZero, FalseClause, Forces, Propagates, halt, force, opposites, Shown, ShownHolds}
use Rattle.rules.proofs.Tests.{any_in, in_any, is_false}
use Rattle.rules.proofs.Members.{map_in, all_in, in_all}
use Rattle.rules.proofs.Deciding.{others_false}

abbrev NotZero : ℤ → Type 0
NotZero l = l ≡ pos 0 → ⊥

says_opposite : (w : Valuation) (l : ℤ) → NotZero l → says w (neg_ℤ l) ≡ not (says w l)
says_opposite w (pos zero) h = absurd (h refl)
says_opposite w (pos (suc n)) h = refl
says_opposite w (negsuc n) h = double (w (suc n))
  where
    double : (b : Bool) → b ≡ not (not b)
    double true = refl
    double false = refl

module _ (w : Valuation) where
  abbrev Says : ℤ → Type 0
  Says l = says w l ≡ true

  -- not both a literal and its opposite are true
  clash : (l : ℤ) → NotZero l → Says l → Says (neg_ℤ l) → ⊥
  clash l h e k = true≢false (sym k ∙ (says_opposite w l h ∙ ap not e))

  -- a false clause is not met
  false_unmet : (trail : Trail) → AllByRecursion Says trail → (c : Clause) → NoZero c → FalseClause trail c → Meets w c → ⊥
  false_unmet trail t c proper b e =
      let (l, m, k) = any_in (says w) c e in
      clash l (all_in NotZero c proper l m) k (all_in Says trail t (neg_ℤ l) (all_in (IsFalseOn trail) c b l m))

  -- a forced literal is true
  forced_true : (trail : Trail) → AllByRecursion Says trail → (c : Clause) (l : ℤ) → NoZero c → Meets w c → Forces trail c l → Says l
  forced_true trail t c l proper e h =
      let (m, i, k) = any_in (says w) c e in
      pick m i k (ℤ_discrete m l)
    where
      pick : (m : ℤ) → In m c → Says m → Dec (m ≡ l) → Says l
      pick m i k (yes q) = subst Says q k
      pick m i k (no q) = absurd (clash m (all_in NotZero c proper m i) k (all_in Says trail t (neg_ℤ m) (others_false trail c l h m i q)))

  module _ (cs : List Clause) (proper : AllByRecursion NoZero cs) (sat : Satisfies w cs) where
    all_true : {t e : Trail} {n : ℕ} → Propagates cs t n e → AllByRecursion Says t → AllByRecursion Says e
    all_true halt h = h
    all_true (force {t = t} {i = i} {l = l} _ low rest) h = all_true rest (forced_true t h (get_or cs i []) l (All-get_or NoZero cs i [] low.within proper) (All-get_or (Meets w) cs i [] low.within sat) low.forces, h)

    holds : (lemma : Clause) → NoZero lemma → (n : ℕ) → Shown cs lemma n → Meets w lemma
    holds lemma p n (e, leads, (c, m, b)) = go (any (says w) lemma) refl
      where
        go : (b : Bool) → any (says w) lemma ≡ b → b ≡ true
        go true q = refl
        go false q =
            let unmet : (l : ℤ) → In l lemma → says w l ≡ false = λ l m. is_false (says w l) (λ k. false≢true (sym q ∙ in_any (says w) lemma l m k)) in
            let start : AllByRecursion Says (opposites lemma) = in_all Says (opposites lemma) (λ l m. let (k, i, x) = map_in neg_ℤ lemma l m in ap (says w) x ∙ (says_opposite w k (all_in NotZero lemma p k i) ∙ ap not (unmet k i))) in
            absurd (false_unmet e (all_true leads start) c (all_in NoZero cs proper c m) b (all_in (Meets w) cs sat c m))

pub shown_holds_lem : ShownHolds
shown_holds_lem cs proper lemma p n h w sat = holds w cs proper sat lemma p n h
