-- What the two closures of encode do at one clause.
use Rattle.std.specs.Prelude.{◌≡◌, ℕ, ◌+◌, ◌-◌, ◌^◌, ◌<◌, List, ℤ, Result}
use Rattle.std.specs.Borrow.{GName}
use Rattle.rules.specs.declared.refusal.Refusal.{Refusal}
use Rattle.rules.specs.Clauses.{Clause, total}
use Rattle.clauses.specs.Judged.{judged, held_after, free_after}

-- the cost is added; a sum that would not fit is not told
abbrev pub Costed : (Clause → ℕ) → ℕ → Clause → ℕ → Type 0
Costed cost a c b = a + cost c < 2 ^ 64 → b ≡ a + cost c

-- what add promises
pub record Added {S : Type 0} (held : S → List Clause) (widest capacity : S → ℕ) (cost : Clause → ℕ) (free : S → List ℤ) (lent : S → GName) (a : S) (c : Clause) (r : Result Unit Refusal) (b : S) : Type 0 where
  pub answers : r ≡ judged (widest a) (capacity a - total cost (held a)) (cost c) c
  pub holds : held b ≡ held_after r (held a) c
  pub rest : free b ≡ free_after r (cost c) (free a)
  pub room : capacity b ≡ capacity a
  pub width : widest b ≡ widest a
  pub same : lent b ≡ lent a

-- what no call on a sink changes
pub record Kept {S : Type 0} (widest capacity : S → ℕ) (lent : S → GName) (a b : S) : Type 0 where
  pub room : capacity b ≡ capacity a
  pub width : widest b ≡ widest a
  pub same : lent b ≡ lent a
