-- How an answer is written: a status, and after `s SATISFIABLE` the literals that are true.
use Rattle.std.specs.Prelude.{◌≡◌, ℕ, ◌^◌, ◌<◌, ◌≤◌, Bool, false, not, List, [], ◌∷◌, ◌++◌, map, length, ℤ, pos, codes, filter, ◌==◌, unsigned_abs}
use Rattle.std.specs.Fmt.{signed_decimal}
use Rattle.std.specs.List.{AllByRecursion}
use Rattle.rules.specs.Lists.{Once, each}
use Rattle.lines.specs.Cut.{Unended, ended}
use Rattle.answers.specs.declared.status.Status.{Status}
use Rattle.answers.specs.declared.status.Status.TheVariants.{Satisfiable, Unsatisfiable, Unknown}

-- the s line, which is one of three
abbrev pub s_line : Status → List ℕ
s_line Satisfiable = codes "s SATISFIABLE"
s_line Unsatisfiable = codes "s UNSATISFIABLE"
s_line Unknown = codes "s UNKNOWN"

-- a v line: `v`, and each of its numbers after one space
abbrev pub v_line : List ℤ → List ℕ
v_line ns = 118 ∷ each (λ n. 32 ∷ signed_decimal n) ns

-- a line that begins with `c`, which says nothing
abbrev pub comment : List ℕ → Bool
comment [] = false
comment (b ∷ bs) = b == 99

-- the lines that say something
abbrev pub telling : List (List ℕ) → List (List ℕ)
telling lines = filter (λ l. not (comment l)) lines

-- the numbers of the v lines together are the literals and a closing 0; only `s SATISFIABLE` has such lines
abbrev pub Closes : Status → List (List ℤ) → List ℤ → Type 0
Closes Satisfiable groups literals = each (λ ns. ns) groups ≡ literals ++ (pos 0 ∷ [])
Closes Unsatisfiable groups literals = (groups ≡ []) × (literals ≡ [])
Closes Unknown groups literals = (groups ≡ []) × (literals ≡ [])

-- a literal of one of the variables 1 to n
abbrev pub Literal : ℕ → ℤ → Type 0
Literal n l = (0 < unsigned_abs l) × (unsigned_abs l ≤ n)

-- the text writes an answer for n variables: this status, and these literals
pub record Rendering (n : ℕ) (text : List ℕ) (status : Status) (literals : List ℤ) : Type 0 where
  -- the text's lines, each with its end
  pub lines : List (List ℕ)
  pub cut : AllByRecursion Unended lines
  pub whole : text ≡ ended lines
  -- the numbers of each v line, at least one
  pub groups : List (List ℤ)
  pub some : AllByRecursion (λ ns. 0 < length ns) groups
  -- comments apart, an s line and then the v lines
  pub tells : telling lines ≡ s_line status ∷ map v_line groups
  pub closes : Closes status groups literals
  -- each is of one of the variables, and none of these stands twice, with either sign
  pub sizes : AllByRecursion (Literal n) literals
  pub once : Once (map unsigned_abs literals)

-- no text writes two answers; numbers are written below 2^64
abbrev pub ReadOneWay : Type 0
ReadOneWay = (n : ℕ) (text : List ℕ) (s t : Status) (ls ms : List ℤ) → n < 2 ^ 64 → Rendering n text s ls → Rendering n text t ms → (s ≡ t) × (ls ≡ ms)
