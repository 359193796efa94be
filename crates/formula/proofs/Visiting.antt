-- Visits of lists that are put together, and a loop that makes such a visit.
use Rattle.std.proofs.Common.{◌≡◌, ℕ, ◌+◌, ◌-◌, ◌<◌, ◌≤◌, List, [], ◌∷◌, ◌++◌, Ok, Err, Result, sym, refl, subst, inl, inr, arith}
use Rattle.std.specs.List.{range_with_len}
use Rattle.rules.specs.Lists.{each}
use Rattle.rules.specs.Clauses.{Clause}
use Rattle.rules.proofs.Counting.{counting_next, counting_over}
use Rattle.formula.specs.Visits.{Visits}

module _ {S E : Type 0} (one : S → Clause → Result Unit E → S → Type 0) where
  pub visits_then : (xs ys : List Clause) (a b c : S) (r : Result Unit E) → Visits one a xs (Ok tt) b → Visits one b ys r c → Visits one a (xs ++ ys) r c
  visits_then [] ys a b c r h k = subst (λ s. Visits one s ys r c) (sym h.1) k
  visits_then (x ∷ xs) ys a b c r (inl h) k = inl (h.0, h.1, visits_then xs ys h.0 b c r h.2 k)
  visits_then (x ∷ xs) ys a b c r (inr h) k = elim h.0 [ ]

  pub visits_stop : (xs ys : List Clause) (a b : S) (e : E) → Visits one a xs (Err e) b → Visits one a (xs ++ ys) (Err e) b
  visits_stop [] ys a b e h = let z : ◌≡◌ {A = ℕ} 0 1 = cc in absurd (omega arith)
  visits_stop (x ∷ xs) ys a b e (inl h) = inl (h.0, h.1, visits_stop xs ys h.0 b e h.2)
  visits_stop (x ∷ xs) ys a b e (inr h) = inr h

  pub visits_as : (a b : S) (xs ys : List Clause) (r : Result Unit E) → xs ≡ ys → Visits one a xs r b → Visits one a ys r b
  visits_as a b xs ys r e h = subst (λ (cs : List Clause). Visits one a cs r b) e h

  pub visits_one : (a b : S) (c d : Clause) (r : Result Unit E) → c ≡ d → one a c r b → Visits one a (d ∷ []) r b
  visits_one a b c d (Ok u) e h = inl (b, subst (λ (x : Clause). one a x (Ok tt) b) e h, (refl, refl))
  visits_one a b c d (Err x) e h = inr (tt, subst (λ (y : Clause). one a y (Err x) b) e h)

  -- a loop over i below n, at whose turn i the clauses g i are shown: whoever visits the rest from here has visited all from the entry
  module _ (g : ℕ → List Clause) where
    abbrev pub Along : S → List Clause → S → ℕ → ℕ → Type 0
    Along a all b i n = (r : Result Unit E) (z : S) → Visits one b (each g (range_with_len i (n - i))) r z → Visits one a all r z

    pub along_none : (a : S) (i n m : ℕ) → n - i ≡ m → Along a (each g (range_with_len i m)) a i n
    along_none a i n m e r z h = subst (λ k. Visits one a (each g (range_with_len i k)) r z) e h

    pub along_more : (a : S) (all : List Clause) (b c : S) (i n : ℕ) → Along a all b i n → i < n → Visits one b (g i) (Ok tt) c → Along a all c (i + 1) n
    along_more a all b c i n o l h r z k = o r z (subst (λ (js : List ℕ). Visits one b (each g js) r z) (sym (counting_next i n l)) (visits_then (g i) (each g (range_with_len (i + 1) (n - (i + 1)))) b c z r h k))

    pub along_stop : (a : S) (all : List Clause) (b c : S) (i n : ℕ) (e : E) → Along a all b i n → i < n → Visits one b (g i) (Err e) c → Visits one a all (Err e) c
    along_stop a all b c i n e o l h = o (Err e) c (subst (λ (js : List ℕ). Visits one b (each g js) (Err e) c) (sym (counting_next i n l)) (visits_stop (g i) (each g (range_with_len (i + 1) (n - (i + 1)))) b c e h))

    pub along_end : (a : S) (all : List Clause) (b : S) (i n : ℕ) → Along a all b i n → n ≤ i → Visits one a all (Ok tt) b
    along_end a all b i n o l = o (Ok tt) b (subst (λ (js : List ℕ). Visits one b (each g js) (Ok tt) b) (sym (counting_over i n l)) (refl, refl))

-- who does no more at each clause than another does no more over them all
pub visits_map : {S E : Type 0} {one two : S → Clause → Result Unit E → S → Type 0} → ((a : S) (c : Clause) (r : Result Unit E) (b : S) → one a c r b → two a c r b) → (cs : List Clause) (a b : S) (r : Result Unit E) → Visits one a cs r b → Visits two a cs r b
visits_map h [] a b r v = v
visits_map h (c ∷ cs) a b r (inl v) = inl (v.0, h a c (Ok tt) v.0 v.1, visits_map h cs v.0 b r v.2)
visits_map h (c ∷ cs) a b r (inr v) = inr (v.0, h a c r b v.1)
