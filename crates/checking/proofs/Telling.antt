-- Truth bytes as values, and what a closure that checks clauses by them comes to.
use Rattle.std.proofs.Common.{◌≡◌, ℕ, zero, suc, ◌+◌, ◌<◌, Bool, true, false, ◌||◌, eqb, List, [], ◌∷◌, length, get_or, drop, is_ok, ℤ, Ok, Err, MatchBool, Result, sym, refl, ap, ◌∙◌, subst, inl, inr}
use mathlib.Core.Bool.{false≢true}
use Rattle.std.proofs.lemmas.List.{at_drop_more}
use Rattle.std.proofs.lemmas.Bool.{or_left}
use Rattle.rules.specs.Lists.{any}
use Rattle.rules.specs.Clauses.{Clause, Satisfies, value}
use Rattle.std.specs.Fn.{Shared}
use denote.Ref.{Bor, MutBor}
use Rattle.formula.specs.Visits.{Shown, Visits}
use Rattle.formula.proofs.Visiting.{visits_map}
use Rattle.checking.specs.Told.{told}
use Rattle.checking.specs.Passing.{Passed}

-- the value at a place; past the bytes it is false
pub get_or_told : (bytes : List ℕ) (i : ℕ) → get_or (told bytes) i false ≡ eqb (get_or bytes i 0) 1
get_or_told [] i = refl
get_or_told (b ∷ bytes) zero = refl
get_or_told (b ∷ bytes) (suc i) = get_or_told bytes i

when_map : (b : Bool) {P Q R S : Type 0} → (P → R) → (Q → S) → MatchBool b P Q → MatchBool b R S
when_map true f g h = f h
when_map false f g h = g h

-- it goes on to the end exactly where every clause is met
pub visited : {S E : Type 0} (bytes : List ℕ) (cs : List Clause) (a b : S) (r : Result Unit E) → Visits (λ a c r b. Passed bytes c r) a cs r b → MatchBool (is_ok r) (Satisfies (value (told bytes)) cs) (Satisfies (value (told bytes)) cs → ⊥)
visited bytes [] a b r h = subst (λ (x : Result Unit _). MatchBool (is_ok x) (Satisfies (value (told bytes)) []) (Satisfies (value (told bytes)) [] → ⊥)) (sym h.0) tt
visited bytes (c ∷ cs) a b r (inl h) = when_map (is_ok r) (λ k. (sym h.1, k)) (λ k all. k all.1) (visited bytes cs h.0 b r h.2)
visited bytes (c ∷ cs) a b (Ok u) (inr h) = absurd h.0
visited bytes (c ∷ cs) a b (Err e) (inr h) = λ all. false≢true (h.1 ∙ all.0)

-- the same, where each call of a closure goes on exactly where its clause is met
pub visited_by : {F S E : Type 0} (bytes : List ℕ) (calls : Shared F (MutBor S × (Bor (List ℤ) × Unit {0})) (Result Unit E × (MutBor S × Unit {0}))) (f : F) → ((a b : MutBor S) (c : Bor (List ℤ)) (r : Result Unit E) → calls.post f (a, (c, tt)) (r, (b, tt)) → Passed bytes c.now r) → (cs : List Clause) (a b : S) (r : Result Unit E) → Visits (Shown calls f) a cs r b → MatchBool (is_ok r) (Satisfies (value (told bytes)) cs) (Satisfies (value (told bytes)) cs → ⊥)
visited_by {F} {S} {E} bytes calls f passes cs a b r v =
    let one : (x : S) (c : Clause) (s : Result Unit E) (y : S) → Shown calls f x c s y → Passed bytes c s = λ x c s y h. subst (λ (d : Clause). Passed bytes d s) h.shows (passes h.lent h.left h.clause s h.answers) in
    visited bytes cs a b r (visits_map {one = Shown calls f} {two = λ x c s y. Passed bytes c s} one cs a b r v)

-- the test of one member more
module _ {X : Type 0} (q : X → Bool) (xs : List X) (i : ℕ) (d : X) (h : i < length xs) where
  pub any_here : q (get_or xs i d) ≡ true → any q (drop i xs) ≡ true
  any_here e = at_drop_more (any q) xs i d h ∙ or_left (q (get_or xs i d)) (any q (drop (i + 1) xs)) e

  pub any_later : q (get_or xs i d) ≡ false → any q (drop i xs) ≡ any q (drop (i + 1) xs)
  any_later e = at_drop_more (any q) xs i d h ∙ ap (λ (b : Bool). b || any q (drop (i + 1) xs)) e
