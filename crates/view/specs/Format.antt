-- Clause text: lines of comment, a head line, and the numbers of the clauses.
use Rattle.std.specs.Prelude.{◌≡◌, ℕ, ◌≤◌, false, ◌⊎◌, List, [], ◌∷◌, ◌++◌, map, length, decimal}
use Rattle.std.specs.Fmt.{signed_decimal}
use Rattle.std.specs.List.{AllByRecursion}
use Rattle.rules.specs.Lists.{any}
use Rattle.rules.specs.Clauses.{Clause, bad_clause}
use Rattle.clauses.specs.Rows.{flat}
use Rattle.text.specs.Lines.{lines_text}
use Rattle.lines.specs.Cut.{Unended, ended}

-- a line of comment begins with c
abbrev pub comment : List ℕ → List ℕ
comment bytes = 99 ∷ bytes

-- `p cnf ` before the two numbers
abbrev pub head_mark : List ℕ
head_mark = 112 ∷ 32 ∷ 99 ∷ 110 ∷ 102 ∷ 32 ∷ []

-- `p cnf V C`
abbrev pub head_line : ℕ → ℕ → List ℕ
head_line v c = head_mark ++ (decimal v ++ (32 ∷ decimal c))

-- the lines before the clauses
abbrev pub top : List (List ℕ) → ℕ → ℕ → List (List ℕ)
top comments v c = map comment comments ++ (head_line v c ∷ [])

-- a text with comments, a head line with V and C, and what stands after it
pub record Headed (text : List ℕ) (v c : ℕ) (body : List ℕ) : Type 0 where
  pub comments : List (List ℕ)
  pub whole : AllByRecursion Unended comments
  pub narrow : v ≤ 999999
  pub few : c ≤ 999999
  pub is : text ≡ ended (top comments v c) ++ body

-- words with a gap before each, and one after the last
abbrev pub spaced : List (List ℕ) → List (List ℕ) → List ℕ
spaced [] ws = []
spaced (g ∷ gs) [] = g
spaced (g ∷ gs) (w ∷ ws) = g ++ (w ++ spaced gs ws)

-- spaces and line feeds
abbrev pub Gap : List ℕ → Type 0
Gap g = AllByRecursion (λ b. (b ≡ 32) ⊎ (b ≡ 10)) g

-- gaps for words, the first of at least k bytes and the others of at least one; the last may be empty
abbrev pub Gaps : ℕ → List (List ℕ) → List (List ℕ) → Type 0
Gaps k [] ws = ⊥
Gaps k (g ∷ gs) [] = Gap g × (gs ≡ [])
Gaps k (g ∷ gs) (w ∷ ws) = Gap g × (k ≤ length g) × Gaps 1 gs ws

-- a text that says V and these clauses: C of them, none bad, a 0 after each, the numbers parted by gaps
pub record Rendering (text : List ℕ) (v : ℕ) (cs : List Clause) : Type 0 where
  pub body : List ℕ
  pub headed : Headed text v (length cs) body
  pub none_bad : any (bad_clause v) cs ≡ false
  pub gaps : List (List ℕ)
  pub apart : Gaps 0 gaps (map signed_decimal (flat cs))
  pub is : body ≡ spaced gaps (map signed_decimal (flat cs))

-- a text says one V and one list of clauses
abbrev pub SaysOnce : Type 0
SaysOnce = (text : List ℕ) (v w : ℕ) (cs ds : List Clause) → Rendering text v cs → Rendering text w ds → (v ≡ w) × (cs ≡ ds)

-- the head line, then the clauses as lines: as they are written
abbrev pub written : ℕ → List Clause → List ℕ
written v cs = ended (head_line v (length cs) ∷ []) ++ lines_text cs

-- clauses that can be written so
pub record Writable (v : ℕ) (cs : List Clause) : Type 0 where
  pub narrow : v ≤ 999999
  pub few : length cs ≤ 999999
  pub none_bad : any (bad_clause v) cs ≡ false

-- what is written says the clauses that were written
abbrev pub WrittenSays : Type 0
WrittenSays = (v : ℕ) (cs : List Clause) → Writable v cs → Rendering (written v cs) v cs
