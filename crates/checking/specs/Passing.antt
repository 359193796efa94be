-- Whether a clause is met, as a closure's answer.
use Rattle.std.specs.Prelude.{◌≡◌, ℕ, List, is_ok, Result}
use Rattle.rules.specs.Lists.{any}
use Rattle.rules.specs.Clauses.{Clause, says, value}
use Rattle.checking.specs.Told.{told}

-- the closure goes on exactly where the bytes make some literal of the clause true
abbrev pub Passed : {E : Type 0} → List ℕ → Clause → Result Unit E → Type 0
Passed bytes c r = is_ok r ≡ any (says (value (told bytes))) c
