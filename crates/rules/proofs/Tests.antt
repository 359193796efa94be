-- Tests over lists, and what stands in them.
use Rattle.std.proofs.Common.{◌≡◌, ℕ, Bool, true, false, eqb, ◌⊎◌, List, [], ◌∷◌, sym, refl, subst, inl, inr}
use mathlib.Core.Bool.{false≢true}
use Rattle.std.proofs.lemmas.Bool.{or_cases, or_left, or_right, eqb-true, eq-eqb}
use Rattle.rules.specs.Lists.{In, any, has}

pub same : (a b : Bool) → (a ≡ true → b ≡ true) → (b ≡ true → a ≡ true) → a ≡ b
same true b f g = sym (f refl)
same false true f g = g refl
same false false f g = refl

pub is_false : (a : Bool) → (a ≡ true → ⊥) → a ≡ false
is_false true h = absurd (h refl)
is_false false h = refl

module _ {X : Type 0} (p : X → Bool) where
  pub any_in : (xs : List X) → any p xs ≡ true → (x : X) × In x xs × (p x ≡ true)
  any_in [] e = absurd (false≢true e)
  any_in (x ∷ xs) e = first (any_in xs) (or_cases (p x) (any p xs) e)
    where
      first : (any p xs ≡ true → (y : X) × In y xs × (p y ≡ true)) → (p x ≡ true) ⊎ (any p xs ≡ true) → (y : X) × In y (x ∷ xs) × (p y ≡ true)
      first more (inl h) = (x, inl refl, h)
      first more (inr h) = let r = more h in (r.0, inr r.1, r.2)

  pub in_any : (xs : List X) (x : X) → In x xs → p x ≡ true → any p xs ≡ true
  in_any [] x m h = elim m [ ]
  in_any (y ∷ xs) x (inl e) h = or_left (p y) (any p xs) (subst (λ z. p z ≡ true) e h)
  in_any (y ∷ xs) x (inr m) h = or_right (p y) (any p xs) (in_any xs x m h)

  pub any_none : (xs : List X) → ((x : X) → In x xs → p x ≡ true → ⊥) → any p xs ≡ false
  any_none xs h = is_false (any p xs) (λ e. let r = any_in xs e in h r.0 r.1 r.2)

  pub any_same : (xs ys : List X) → ((x : X) → In x xs → In x ys) → ((x : X) → In x ys → In x xs) → any p xs ≡ any p ys
  any_same xs ys f g =
      same (any p xs) (any p ys)
      (λ e. let r = any_in xs e in in_any ys r.0 (f r.0 r.1) r.2)
      (λ e. let r = any_in ys e in in_any xs r.0 (g r.0 r.1) r.2)

pub has_in : (n : ℕ) (ns : List ℕ) → has n ns ≡ true → In n ns
has_in n ns e = let (m, i, k) = any_in (eqb n) ns e in subst (λ z. In z ns) (sym (eqb-true n m k)) i

pub in_has : (n : ℕ) (ns : List ℕ) → In n ns → has n ns ≡ true
in_has n ns m = in_any (eqb n) ns n m (eq-eqb n n refl)
