-- Propagation comes to an end: each lemma is shown or not shown.
use Rattle.std.proofs.Common.{◌≡◌, ℕ, zero, suc, ◌+◌, ◌<◌, ◌≤◌, ◌⊎◌, List, [], ◌∷◌, length, get_or, ℤ, neg_ℤ, sym, refl, subst, inl, inr, ⊎_elim, arith}
use lib.IntN.{ℤ_discrete}
use Rattle.std.specs.List.{AllByRecursion}
use Rattle.rules.specs.Lists.{In, each}
use Rattle.rules.specs.Clauses.{Clause}
use Rattle.rules.specs.Propagation.{Trail, IsTrueOn, IsFalseOn, IsOpenOn, FalseClause, Forces, Lowest, Conflict, NoneForced, Propagates, halt, force, opposites, ShownOrNot}
use Rattle.rules.proofs.Members.{all_in, in_all, in_each}

both? : {A B : Type 0} → Dec A → Dec B → Dec (A × B)
both? (yes a) (yes b) = yes (a, b)
both? (yes a) (no b) = no (λ r. b r.1)
both? (no a) d = no (λ r. a r.0)

either? : {A B : Type 0} → Dec A → Dec B → Dec (A ⊎ B)
either? (yes a) d = yes (inl a)
either? (no a) (yes b) = yes (inr b)
either? (no a) (no b) = no (λ r. ⊎_elim a b r)

not? : {A : Type 0} → Dec A → Dec (A → ⊥)
not? (yes a) = no (λ h. h a)
not? (no a) = yes a

like? : {A B : Type 0} → (A → B) → (B → A) → Dec A → Dec B
like? f g (yes a) = yes (f a)
like? f g (no a) = no (λ b. a (g b))

pub in? : (l : ℤ) (t : Trail) → Dec (In l t)
in? l [] = no (λ m. m)
in? l (m ∷ t) = either? (ℤ_discrete l m) (in? l t)

module _ {X : Type 0} (P : X → Type 0) (P? : (x : X) → Dec (P x)) where
  all? : (xs : List X) → Dec (AllByRecursion P xs)
  all? [] = yes tt
  all? (x ∷ xs) = both? (P? x) (all? xs)

  some? : (xs : List X) → Dec ((x : X) × In x xs × P x)
  some? [] = no (λ r. r.1)
  some? (x ∷ xs) = like? (⊎_elim (λ (h : P x). (x, inl refl, h)) (λ (r : (y : X) × In y xs × P y). (r.0, inr r.1, r.2))) back (either? (P? x) (some? xs))
    where
      back : (y : X) × In y (x ∷ xs) × P y → P x ⊎ ((y : X) × In y xs × P y)
      back (y, inl e, h) = inl (subst P e h)
      back (y, inr m, h) = inr (y, m, h)

pub conflict? : (cs : List Clause) (t : Trail) → Dec (Conflict cs t)
conflict? cs t = some? (FalseClause t) (all? (IsFalseOn t) (λ l. in? (neg_ℤ l) t)) cs

-- each other literal of a forcing clause is false
pub others_false : (t : Trail) (c : Clause) (l : ℤ) → Forces t c l → (m : ℤ) → In m c → (m ≡ l → ⊥) → IsFalseOn t m
others_false t c l f m i ne = go (in? (neg_ℤ m) t)
  where
    go : Dec (IsFalseOn t m) → IsFalseOn t m
    go (yes h) = h
    go (no h) = absurd (ne (f.no_other m i (f.none_true m i, h)))

-- what `Forces` says of each literal of the clause
Beside : Trail → ℤ → ℤ → Type 0
Beside t l m = (IsTrueOn t m → ⊥) × ((m ≡ l) ⊎ IsFalseOn t m)

beside? : (t : Trail) (l m : ℤ) → Dec (Beside t l m)
unfolding Beside
beside? t l m = both? (not? (in? m t)) (either? (ℤ_discrete m l) (in? (neg_ℤ m) t))

Lone : Trail → Clause → ℤ → Type 0
Lone t c l = IsOpenOn t l × AllByRecursion (Beside t l) c

lone? : (t : Trail) (c : Clause) (l : ℤ) → Dec (Lone t c l)
unfolding Lone
lone? t c l = both? (both? (not? (in? l t)) (not? (in? (neg_ℤ l) t))) (all? (Beside t l) (beside? t l) c)

forces? : (t : Trail) (c : Clause) → Dec ((l : ℤ) × Forces t c l)
unfolding Lone Beside
forces? t c = like? to from (some? (Lone t c) (lone? t c) c)
  where
    to : (l : ℤ) × In l c × Lone t c l → (l : ℤ) × Forces t c l
    to (l, m, (o, h)) = (l, record { none_true = λ k i. (all_in (Beside t l) c h k i).0; member = m; is_open = o; no_other = λ k i (p : IsOpenOn t k). ⊎_elim (λ e. e) (λ n. absurd (p.1 n)) (all_in (Beside t l) c h k i).1 })

    beside : (l m : ℤ) → Forces t c l → In m c → Dec (m ≡ l) → (m ≡ l) ⊎ IsFalseOn t m
    beside l m f i (yes e) = inl e
    beside l m f i (no e) = inr (others_false t c l f m i e)

    from : (l : ℤ) × Forces t c l → (l : ℤ) × In l c × Lone t c l
    from (l, f) = (l, f.member, (f.is_open, in_all (Beside t l) c (λ m i. (f.none_true m i, beside l m f i (ℤ_discrete m l)))))

pub lowest? : (cs : List Clause) (t : Trail) → ((i : ℕ) × (l : ℤ) × Lowest cs t i l) ⊎ NoneForced cs t
lowest? [] t = inr (λ c m. elim m [ ])
lowest? (c ∷ cs) t = go (forces? t c) (lowest? cs t)
  where
    before : (n : ℕ) → ((l : ℤ) × Forces t c l → ⊥) → ((j : ℕ) → j < n → (m : ℤ) → Forces t (get_or cs j []) m → ⊥) → (j : ℕ) → j < suc n → (m : ℤ) → Forces t (get_or (c ∷ cs) j []) m → ⊥
    before n here rest zero h m f = here (m, f)
    before n here rest (suc j) h m f = rest j (omega arith) m f

    none : ((l : ℤ) × Forces t c l → ⊥) → NoneForced cs t → (d : Clause) → In d (c ∷ cs) → (l : ℤ) → Forces t d l → ⊥
    none here rest d (inl e) l f = here (l, subst (λ x. Forces t x l) e f)
    none here rest d (inr m) l f = rest d m l f

    go : Dec ((l : ℤ) × Forces t c l) → ((i : ℕ) × (l : ℤ) × Lowest cs t i l) ⊎ NoneForced cs t → ((i : ℕ) × (l : ℤ) × Lowest (c ∷ cs) t i l) ⊎ NoneForced (c ∷ cs) t
    go (yes (l, f)) r = inl (0, l, record { within = omega arith; forces = f; first = λ j h. absurd (omega arith) })
    go (no n) (inl (i, l, low)) = inl (suc i, l, record { within = omega (arith, low.within); forces = low.forces; first = before i n low.first })
    go (no n) (inr s) = inr (none n s)

-- how many of some literals are not yet true
gap : {A : Type 0} → Dec A → ℕ
gap (yes a) = 0
gap (no a) = 1

gap_le : {A B : Type 0} → (A → B) → (d : Dec A) (e : Dec B) → gap e ≤ gap d
unfolding gap
gap_le f (yes a) (yes b) = omega arith
gap_le f (yes a) (no b) = absurd (b (f a))
gap_le f (no a) (yes b) = omega arith
gap_le f (no a) (no b) = omega arith

gap_lt : {A B : Type 0} → (A → ⊥) → B → (d : Dec A) (e : Dec B) → gap e < gap d
unfolding gap
gap_lt n b (yes a) e = absurd (n a)
gap_lt n b (no a) (yes b') = omega arith
gap_lt n b (no a) (no b') = absurd (b' b)

left : List ℤ → Trail → ℕ
left [] t = 0
left (x ∷ xs) t = gap (in? x t) + left xs t

left_le : (xs : List ℤ) (l : ℤ) (t : Trail) → left xs (l ∷ t) ≤ left xs t
unfolding left
left_le [] l t = omega arith
left_le (x ∷ xs) l t = omega (arith, left_le xs l t, gap_le (λ (m : In x t). inr m) (in? x t) (in? x (l ∷ t)))

left_lt : (xs : List ℤ) (l : ℤ) (t : Trail) → In l xs → (In l t → ⊥) → left xs (l ∷ t) < left xs t
unfolding left
left_lt [] l t m n = elim m [ ]
left_lt (x ∷ xs) l t (inl e) n = omega (arith, left_le xs l t, gap_lt (λ (m : In x t). n (subst (λ z. In z t) (sym e) m)) (inl (sym e)) (in? x t) (in? x (l ∷ t)))
left_lt (x ∷ xs) l t (inr m) n = omega (arith, left_lt xs l t m n, gap_le (λ (m : In x t). inr m) (in? x t) (in? x (l ∷ t)))

pub get_or_in : (cs : List Clause) (i : ℕ) → i < length cs → In (get_or cs i []) cs
get_or_in [] i h = absurd (omega arith)
get_or_in (c ∷ cs) zero h = inl refl
get_or_in (c ∷ cs) (suc i) h = inr (get_or_in cs i (omega arith))

in_get_or : (cs : List Clause) (c : Clause) → In c cs → (i : ℕ) × (i < length cs) × (c ≡ get_or cs i [])
in_get_or [] c m = elim m [ ]
in_get_or (d ∷ cs) c (inl e) = (0, omega arith, e)
in_get_or (d ∷ cs) c (inr m) = let (i, h, e) = in_get_or cs c m in (suc i, omega arith, e)

-- by places: where no place has a clause that forces a literal, no clause does
pub none_at : (cs : List Clause) (t : Trail) → ((i : ℕ) → i < length cs → (l : ℤ) → Forces t (get_or cs i []) l → ⊥) → NoneForced cs t
none_at cs t none c m l f = let (i, h, e) = in_get_or cs c m in none i h l (subst (λ d. Forces t d l) e f)

-- propagation goes on by one more literal
pub one_more : {cs : List Clause} {t e : Trail} {i n : ℕ} {l : ℤ} → Propagates cs t n e → (Conflict cs e → ⊥) → Lowest cs e i l → Propagates cs t (suc n) (l ∷ e)
one_more halt u low = force u low halt
one_more (force v first rest) u low = force v first (one_more rest u low)

module _ (cs : List Clause) where
  Ends : Trail → Type 0
  Ends t = (e : Trail) × (n : ℕ) × Propagates cs t n e × (Conflict cs e ⊎ ((Conflict cs e → ⊥) × NoneForced cs e))

  run : (n : ℕ) (t : Trail) → left (each (λ c. c) cs) t < n → Ends t
  unfolding Ends
  run zero t h = absurd (omega arith)
  run (suc n) t h = go (λ i l low. run n (l ∷ t) (omega (arith, left_lt (each (λ c. c) cs) l t (in_each (λ c. c) cs (get_or cs i []) l (get_or_in cs i low.within) low.forces.member) low.forces.is_open.0))) (conflict? cs t) (lowest? cs t)
    where
      go : ((i : ℕ) (l : ℤ) → Lowest cs t i l → Ends (l ∷ t)) → Dec (Conflict cs t) → ((i : ℕ) × (l : ℤ) × Lowest cs t i l) ⊎ NoneForced cs t → Ends t
      go more (yes s) r = (t, 0, halt, inl s)
      go more (no u) (inl (i, l, low)) = let (e, k, leads, end) = more i l low in (e, suc k, force u low leads, end)
      go more (no u) (inr s) = (t, 0, halt, inr (u, s))

pub shown_or_not_lem : ShownOrNot
unfolding Ends
shown_or_not_lem cs lemma =
    let (e, n, leads, end) = run cs (suc (left (each (λ c. c) cs) (opposites lemma))) (opposites lemma) (omega arith) in
    ⊎_elim (λ s. inl (n, (e, leads, s))) (λ (r : (Conflict cs e → ⊥) × NoneForced cs e). inr (n, (e, leads, r.0, r.1))) end
