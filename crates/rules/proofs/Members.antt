-- Membership, `All`, and the lists that formulas are made of.
use Rattle.std.proofs.Common.{◌≡◌, ℕ, zero, suc, ◌+◌, ◌<◌, ◌≤◌, Bool, true, false, cond, ◌⊎◌, ◌↔◌, List, [], ◌∷◌, ◌++◌, map, filter, sym, refl, ap, ◌∙◌, subst, inl, inr, ⊎_elim, arith}
use mathlib.Core.Bool.{false≢true}
use Rattle.std.specs.List.{range_with_len, AllByRecursion}
use Rattle.std.proofs.ByRecursion.{All-append}
use Rattle.std.proofs.lemmas.Bool.{cases_eq}
use Rattle.rules.specs.Lists.{In, any, each, only}
use Rattle.rules.proofs.Tests.{any_in, in_any}

pub counting_in : (a n x : ℕ) → In x (range_with_len a n) → (a ≤ x) × (x < a + n)
counting_in a zero x m = elim m [ ]
counting_in a (suc n) x (inl e) = (omega arith, omega arith)
counting_in a (suc n) x (inr m) = let h = counting_in (a + 1) n x m in (omega arith, omega arith)

pub in_counting : (a n x : ℕ) → a ≤ x → x < a + n → In x (range_with_len a n)
in_counting a zero x h k = absurd (omega arith)
in_counting a (suc n) x h k = ⊎_elim (λ e. inl e) (λ (ne : x ≡ a → ⊥). inr (in_counting (a + 1) n x (omega arith) (omega arith))) (cases_eq x a)

module _ {X : Type 0} where
  pub append_in : (x : X) (xs ys : List X) → In x (xs ++ ys) → In x xs ⊎ In x ys
  append_in x [] ys m = inr m
  append_in x (y ∷ xs) ys (inl e) = inl (inl e)
  append_in x (y ∷ xs) ys (inr m) = ⊎_elim (λ h. inl (inr h)) (λ h. inr h) (append_in x xs ys m)

  pub in_append_left : (x : X) (xs ys : List X) → In x xs → In x (xs ++ ys)
  in_append_left x [] ys m = elim m [ ]
  in_append_left x (y ∷ xs) ys (inl e) = inl e
  in_append_left x (y ∷ xs) ys (inr m) = inr (in_append_left x xs ys m)

  pub in_append_right : (x : X) (xs ys : List X) → In x ys → In x (xs ++ ys)
  in_append_right x [] ys m = m
  in_append_right x (y ∷ xs) ys m = inr (in_append_right x xs ys m)

  pub only_in : (x y : X) (b : Bool) → In y (only b x) → (b ≡ true) × (y ≡ x)
  only_in x y true (inl e) = (refl, e)
  only_in x y true (inr m) = elim m [ ]
  only_in x y false m = elim m [ ]

  pub in_only : (x : X) (b : Bool) → b ≡ true → In x (only b x)
  in_only x b e = rw e (inl refl)

  pub kept_in : (t : X → Bool) (xs : List X) (x : X) → In x (filter t xs) → In x xs × (t x ≡ true)
  kept_in t [] x m = elim m [ ]
  kept_in t (y ∷ xs) x m = go (kept_in t xs x) (t y) refl m
    where
      go : (In x (filter t xs) → In x xs × (t x ≡ true)) → (b : Bool) → t y ≡ b → In x (cond b (y ∷ filter t xs) (filter t xs)) → In x (y ∷ xs) × (t x ≡ true)
      go ih true e (inl k) = (inl k, ap t k ∙ e)
      go ih true e (inr k) = let r = ih k in (inr r.0, r.1)
      go ih false e k = let r = ih k in (inr r.0, r.1)

  pub in_kept : (t : X → Bool) (xs : List X) (x : X) → In x xs → t x ≡ true → In x (filter t xs)
  in_kept t [] x m e = elim m [ ]
  in_kept t (y ∷ xs) x (inl k) e = let h : t y ≡ true = ap t (sym k) ∙ e in rw h (inl k)
  in_kept t (y ∷ xs) x (inr m) e = go (in_kept t xs x m e) (t y)
    where
      go : In x (filter t xs) → (b : Bool) → In x (cond b (y ∷ filter t xs) (filter t xs))
      go ih true = inr ih
      go ih false = ih

module _ {X Y : Type 0} where
  pub map_in : (f : X → Y) (xs : List X) (y : Y) → In y (map f xs) → (x : X) × In x xs × (y ≡ f x)
  map_in f [] y m = elim m [ ]
  map_in f (x ∷ xs) y (inl e) = (x, inl refl, e)
  map_in f (x ∷ xs) y (inr m) = let r = map_in f xs y m in (r.0, inr r.1, r.2)

  pub in_map : (f : X → Y) (xs : List X) (x : X) → In x xs → In (f x) (map f xs)
  in_map f [] x m = elim m [ ]
  in_map f (y ∷ xs) x (inl e) = inl (ap f e)
  in_map f (y ∷ xs) x (inr m) = inr (in_map f xs x m)

  pub each_in : (g : X → List Y) (xs : List X) (y : Y) → In y (each g xs) → (x : X) × In x xs × In y (g x)
  each_in g [] y m = elim m [ ]
  each_in g (x ∷ xs) y m = go (each_in g xs y) (append_in y (g x) (each g xs) m)
    where
      go : (In y (each g xs) → (x : X) × In x xs × In y (g x)) → In y (g x) ⊎ In y (each g xs) → (z : X) × In z (x ∷ xs) × In y (g z)
      go ih (inl k) = (x, inl refl, k)
      go ih (inr k) = let r = ih k in (r.0, inr r.1, r.2)

  pub in_each : (g : X → List Y) (xs : List X) (x : X) (y : Y) → In x xs → In y (g x) → In y (each g xs)
  in_each g [] x y m k = elim m [ ]
  in_each g (z ∷ xs) x y (inl e) k = in_append_left y (g z) (each g xs) (subst (λ u. In y (g u)) e k)
  in_each g (z ∷ xs) x y (inr m) k = in_append_right y (g z) (each g xs) (in_each g xs x y m k)

-- All
module _ {X : Type 0} (P : X → Type 0) where
  pub all_in : (xs : List X) → AllByRecursion P xs → (x : X) → In x xs → P x
  all_in [] h x m = elim m [ ]
  all_in (y ∷ xs) h x (inl e) = subst P (sym e) h.0
  all_in (y ∷ xs) h x (inr m) = all_in xs h.1 x m

  pub in_all : (xs : List X) → ((x : X) → In x xs → P x) → AllByRecursion P xs
  in_all [] h = tt
  in_all (y ∷ xs) h = (h y (inl refl), in_all xs (λ x m. h x (inr m)))

  pub all_left : (xs ys : List X) → AllByRecursion P (xs ++ ys) → AllByRecursion P xs
  all_left xs ys h = in_all xs (λ x m. all_in (xs ++ ys) h x (in_append_left x xs ys m))

  pub all_right : (xs ys : List X) → AllByRecursion P (xs ++ ys) → AllByRecursion P ys
  all_right xs ys h = in_all ys (λ x m. all_in (xs ++ ys) h x (in_append_right x xs ys m))

  module _ {Z : Type 0} (g : Z → List X) (zs : List Z) where
    pub all_each : AllByRecursion P (each g zs) → (z : Z) → In z zs → AllByRecursion P (g z)
    all_each h z m = in_all (g z) (λ x k. all_in (each g zs) h x (in_each g zs z x m k))

    pub each_all : ((z : Z) → In z zs → AllByRecursion P (g z)) → AllByRecursion P (each g zs)
    each_all h = in_all (each g zs) (λ x m. let r = each_in g zs x m in all_in (g r.0) (h r.0 r.1) x r.2)

-- `All` over what lists are made by, for `simp`
pub all_append_is : {X : Type 0} (P : X → Type 0) (xs ys : List X) → AllByRecursion P (xs ++ ys) ↔ (AllByRecursion P xs × AllByRecursion P ys)
all_append_is P xs ys = (λ h. (all_left P xs ys h, all_right P xs ys h), λ h. All-append P xs ys h.0 h.1)

pub all_each_is : {X Z : Type 0} (P : X → Type 0) (g : Z → List X) (zs : List Z) → AllByRecursion P (each g zs) ↔ ((z : Z) → In z zs → AllByRecursion P (g z))
all_each_is P g zs = (all_each P g zs, each_all P g zs)

pub all_map_is : {X Z : Type 0} (P : X → Type 0) (g : Z → X) (zs : List Z) → AllByRecursion P (map g zs) ↔ ((z : Z) → In z zs → P (g z))
all_map_is P g zs = (λ h z m. all_in P (map g zs) h (g z) (in_map g zs z m), λ h. in_all P (map g zs) (λ x m. let (z, k, e) = map_in g zs x m in subst P (sym e) (h z k)))

pub all_only_is : {X : Type 0} (P : X → Type 0) (b : Bool) (x : X) → AllByRecursion P (only b x) ↔ (b ≡ true → P x)
all_only_is P true x = (λ h _. h.0, λ h. (h refl, tt))
all_only_is P false x = (λ h e. absurd (false≢true e), λ h. tt)

pub ruleset all-is = (all_append_is, all_each_is, all_map_is, all_only_is)

-- a test over what a map and a filter leave
pub any_kept : {X Y : Type 0} (q : Y → Bool) (g : X → Y) (t : X → Bool) (xs : List X) → any q (map g (filter t xs)) ≡ true ↔ ((x : X) × In x xs × (t x ≡ true) × (q (g x) ≡ true))
any_kept q g t xs = (λ e. let (y, m, h) = any_in q (map g (filter t xs)) e in let (x, k, i) = map_in g (filter t xs) y m in let (j, l) = kept_in t xs x k in (x, j, l, ap q (sym i) ∙ h), λ r. in_any q (map g (filter t xs)) (g r.0) (in_map g (filter t xs) r.0 (in_kept t xs r.0 r.1 r.2)) r.3)
