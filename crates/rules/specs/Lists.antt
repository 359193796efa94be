-- Words on lists. A finite set is a list, by what stands in it.
use Rattle.std.specs.Prelude.{◌≡◌, ℕ, Bool, false, cond, ◌||◌, ◌⊎◌, List, [], ◌∷◌, ◌++◌, nat_eq}

-- x stands in the list
abbrev pub In : {X : Type 0} → X → List X → Type 0
In x [] = ⊥
In x (y ∷ ys) = (x ≡ y) ⊎ In x ys

-- no member stands twice
abbrev pub Once : {X : Type 0} → List X → Type 0
Once [] = Unit {0}
Once (x ∷ xs) = (In x xs → ⊥) × Once xs

-- some member passes the test
abbrev pub any : {X : Type 0} → (X → Bool) → List X → Bool
any p [] = false
any p (x ∷ xs) = p x || any p xs

-- the test of membership, for numbers
abbrev pub has : ℕ → List ℕ → Bool
has n ns = any (nat_eq n) ns

-- some number stands in both
abbrev pub shares : List ℕ → List ℕ → Bool
shares xs ys = any (λ x. has x ys) xs

-- what each member gives, one after another
abbrev pub each : {X Y : Type 0} → (X → List Y) → List X → List Y
each g [] = []
each g (x ∷ xs) = g x ++ each g xs

-- the one item, if the test passes
abbrev pub only : {X : Type 0} → Bool → X → List X
only b x = cond b (x ∷ []) []
