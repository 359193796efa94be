-- A call's checks in their order, each with the number that refuses where it fails.
use Rattle.std.specs.Prelude.{◌≡◌, ℕ, Bool, cond, ◌⊎◌, List, [], ◌∷◌}

abbrev pub Checks : Type 0
Checks = List (ℕ × Bool)

-- the number of the first check that fails, and 0 where all pass
abbrev pub first_refusal : Checks → ℕ
first_refusal [] = 0
first_refusal (c ∷ cs) = cond c.1 (first_refusal cs) c.0

-- The same for checks that are told in the subject's words: each is what must hold.
abbrev pub Tests : Type 1
Tests = List (ℕ × Type 0)

-- n is the number of the first test that is not met, and 0 where all are met
abbrev pub Answers : Tests → ℕ → Type 0
Answers [] n = n ≡ 0
Answers (t ∷ ts) n = (t.1 × Answers ts n) ⊎ ((t.1 → ⊥) × (n ≡ t.0))
