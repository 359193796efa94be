-- A text cut at a byte, and into lines. A line ends at its line feed, which is no part of it.
use Rattle.std.specs.Prelude.{◌≡◌, ℕ, false, List, [], ◌∷◌, ◌++◌}
use Rattle.rules.specs.Lists.{has, each}

-- a text cut at the first byte `at`, which is no part of either piece
pub record CutAt (at : ℕ) (text front rest : List ℕ) : Type 0 where
  pub inside : has at front ≡ false
  pub parts : text ≡ front ++ (at ∷ rest)

-- no line ends in these bytes
abbrev pub Unended : List ℕ → Type 0
Unended bs = has 10 bs ≡ false

-- the first line of a text, and what stands after its end
abbrev pub Cut : List ℕ → List ℕ → List ℕ → Type 0
Cut text line rest = CutAt 10 text line rest

-- lines, each with its end
abbrev pub ended : List (List ℕ) → List ℕ
ended lines = each (λ l. l ++ (10 ∷ [])) lines
