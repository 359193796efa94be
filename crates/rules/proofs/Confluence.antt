-- Whether propagation comes to a false clause does not depend on its order.
use Rattle.std.proofs.Common.{◌≡◌, ℕ, List, [], ◌∷◌, get_or, ℤ, neg_ℤ, sym, ap, ◌∙◌, subst, inl, inr, ⊎_elim}
use lib.IntN.{neg_ℤ-neg_ℤ, ℤ_discrete}
use Rattle.rules.specs.Lists.{In}
use Rattle.rules.specs.Clauses.{Clause}
use Rattle.rules.specs.Propagation.{Trail, IsTrueOn, IsFalseOn, IsOpenOn, Forces, Conflict, NoneForced, Propagates, halt, force, opposites, Shown, IsNotShown, PropagatesFreely, halt_freely, force_freely, ForcedInAnyOrder}
use Rattle.rules.proofs.Members.{all_in, in_all}
use Rattle.rules.proofs.Deciding.{shown_or_not_lem, in?, conflict?, get_or_in, others_false}

freely : {cs : List Clause} {t e : Trail} {n : ℕ} → Propagates cs t n e → PropagatesFreely cs t e
freely halt = halt_freely
freely {cs} (force {i = i} u low more) = force_freely (get_or cs i []) (get_or_in cs i low.within) low.forces (freely more)

-- the trail grows
freely_in : {cs : List Clause} {t e : Trail} → PropagatesFreely cs t e → (l : ℤ) → In l t → In l e
freely_in halt_freely l m = m
freely_in (force_freely c i f more) l m = freely_in more l (inr m)

-- where no clause is false at the end, a literal is true and false at once only if it was so at the start
clash_back : {cs : List Clause} {t e : Trail} → PropagatesFreely cs t e → (Conflict cs e → ⊥) → (m : ℤ) → IsTrueOn e m → IsFalseOn e m → IsTrueOn t m × IsFalseOn t m
clash_back halt_freely un m h k = (h, k)
clash_back {cs} {e = e} (force_freely {t = t} {l = l} c i f more) un m h k = let r = clash_back more un m h k in go r.0 r.1
  where
    false_now : neg_ℤ l ≡ l → (x : ℤ) → In x c → Dec (x ≡ l) → IsFalseOn e x
    false_now q x j (yes y) = freely_in more (neg_ℤ x) (inl (ap neg_ℤ y ∙ q))
    false_now q x j (no y) = freely_in more (neg_ℤ x) (inr (others_false t c l f x j y))

    go : In m (l ∷ t) → In (neg_ℤ m) (l ∷ t) → IsTrueOn t m × IsFalseOn t m
    go (inr a) (inr b) = (a, b)
    go (inl a) (inr b) = absurd (f.is_open.1 (subst (λ z. In (neg_ℤ z) t) a b))
    go (inr a) (inl b) = absurd (f.is_open.1 (subst (λ z. In z t) (sym (neg_ℤ-neg_ℤ m) ∙ ap neg_ℤ b) a))
    go (inl a) (inl b) = absurd (un (c, i, in_all (IsFalseOn e) c (λ x j. false_now (ap neg_ℤ (sym a) ∙ b) x j (ℤ_discrete x l))))

-- a trail that comes from s, forces nothing and makes no clause false has all that is forced from s
module _ (cs : List Clause) (s e : Trail) (path : PropagatesFreely cs s e) (un : Conflict cs e → ⊥) (none : NoneForced cs e) where
  forced_in : (t : Trail) → ((l : ℤ) → In l s → In l t) → ((l : ℤ) → In l t → In l e) → (c : Clause) → In c cs → (l : ℤ) → Forces t c l → In l e
  forced_in t base sub c m l f = go (in? l e) (in? (neg_ℤ l) e)
    where
      other : (k : ℤ) → In k c → (k ≡ l → ⊥) → IsFalseOn e k
      other k i q = sub (neg_ℤ k) (others_false t c l f k i q)

      all_false : IsFalseOn e l → (k : ℤ) → In k c → Dec (k ≡ l) → IsFalseOn e k
      all_false n k i (yes q) = subst (IsFalseOn e) (sym q) n
      all_false n k i (no q) = other k i q

      no_true : (IsTrueOn e l → ⊥) → (k : ℤ) → In k c → IsTrueOn e k → Dec (k ≡ l) → ⊥
      no_true n k i h (yes q) = n (subst (IsTrueOn e) q h)
      no_true n k i h (no q) = f.none_true k i (base k (clash_back path un k h (other k i q)).0)

      same : (k : ℤ) → In k c → IsOpenOn e k → Dec (k ≡ l) → k ≡ l
      same k i o (yes q) = q
      same k i o (no q) = absurd (o.1 (other k i q))

      go : Dec (In l e) → Dec (In (neg_ℤ l) e) → In l e
      go (yes i) r = i
      go (no i) (yes n) = absurd (un (c, m, in_all (IsFalseOn e) c (λ k j. all_false n k j (ℤ_discrete k l))))
      go (no i) (no n) = absurd (none c m l (record { none_true = λ k j h. no_true i k j h (ℤ_discrete k l); member = f.member; is_open = (i, n); no_other = λ k j o. same k j o (ℤ_discrete k l) }))

  all_forced_in : {t f : Trail} → PropagatesFreely cs t f → ((l : ℤ) → In l s → In l t) → ((l : ℤ) → In l t → In l e) → (l : ℤ) → In l f → In l e
  all_forced_in halt_freely base sub = sub
  all_forced_in (force_freely {t = t} {l = l} c m f more) base sub = all_forced_in more (λ k i. inr (base k i)) (λ k i. ⊎_elim (λ (q : k ≡ l). subst (λ z. In z e) (sym q) (forced_in t base sub c m l f)) (sub k) i)

  no_conflict : {f : Trail} → PropagatesFreely cs s f → Conflict cs f → ⊥
  no_conflict {f} r (c, m, b) = un (c, m, in_all (IsFalseOn e) c (λ l i. all_forced_in r (λ k j. j) (freely_in path) (neg_ℤ l) (all_in (IsFalseOn f) c b l i)))

module _ (cs : List Clause) (lemma : Clause) where
  abbrev Some : Type 0
  Some = (e : Trail) × PropagatesFreely cs (opposites lemma) e × Conflict cs e

  some_shown : Some → (n : ℕ) × Shown cs lemma n
  some_shown (f, r, s) = ⊎_elim (λ h. h) (λ (q : (n : ℕ) × IsNotShown cs lemma n). let (k, (e, a, u, none)) = q in absurd (no_conflict cs (opposites lemma) e (freely a) u none r s)) (shown_or_not_lem cs lemma)

  shown_some : ((n : ℕ) × Shown cs lemma n) → Some
  shown_some (n, (e, r, s)) = (e, freely r, s)

  some_every : Some → (e : Trail) → PropagatesFreely cs (opposites lemma) e → NoneForced cs e → Conflict cs e
  some_every (f, r, s) e q none = go (conflict? cs e)
    where
      go : Dec (Conflict cs e) → Conflict cs e
      go (yes k) = k
      go (no k) = absurd (no_conflict cs (opposites lemma) e q k none r s)

  every_shown : ((e : Trail) → PropagatesFreely cs (opposites lemma) e → NoneForced cs e → Conflict cs e) → (n : ℕ) × Shown cs lemma n
  every_shown h = ⊎_elim (λ s. s) (λ (q : (n : ℕ) × IsNotShown cs lemma n). let (k, (e, a, u, none)) = q in absurd (u (h e (freely a) none))) (shown_or_not_lem cs lemma)

pub forced_in_any_order_lem : ForcedInAnyOrder
forced_in_any_order_lem cs lemma = record { some_order = (shown_some cs lemma, some_shown cs lemma); every_order = (λ s. some_every cs lemma (shown_some cs lemma s), every_shown cs lemma) }
