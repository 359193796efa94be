-- What a closure that is shown clauses comes to over a list of them, from what it does at one.
use Rattle.std.specs.Prelude.{◌≡◌, ◌⊎◌, List, [], ◌∷◌, ℤ, Ok, Err, Result}
use Rattle.std.specs.Fn.{Shared}
use denote.Ref.{Bor, MutBor}
use Rattle.rules.specs.Clauses.{Clause}

-- the closure f, called at the state a and the clause c, may answer r and leave the state b
pub record Shown {F S E : Type 0} (calls : Shared F (MutBor S × (Bor (List ℤ) × Unit {0})) (Result Unit E × (MutBor S × Unit {0}))) (f : F) (a : S) (c : Clause) (r : Result Unit E) (b : S) : Type 0 where
  pub lent : MutBor S
  pub clause : Bor (List ℤ)
  pub left : MutBor S
  pub lends : lent.now ≡ a
  pub shows : clause.now ≡ c
  pub answers : calls.post f (lent, (clause, tt)) (r, (left, tt))
  pub leaves : left.now ≡ b

abbrev pub Stops : {E : Type 0} → Result Unit E → Type 0
Stops (Ok _) = ⊥
Stops (Err _) = Unit {0}

-- from a, shown the clauses in turn up to the first that stops it, it answers r and is left at b
abbrev pub Visits : {S E : Type 0} → (S → Clause → Result Unit E → S → Type 0) → S → List Clause → Result Unit E → S → Type 0
Visits one a [] r b = (r ≡ Ok tt) × (a ≡ b)
Visits {S} one a (c ∷ cs) r b = ((m : S) × one a c (Ok tt) m × Visits one m cs r b) ⊎ (Stops r × one a c r b)
