-- Inputs as records, one after another, and what is printed for them.
use Rattle.std.specs.Prelude.{◌≡◌, ℕ, ◌+◌, ◌^◌, ◌<◌, List, [], ◌∷◌, ◌++◌, length, codes, decimal, Ok, Result}
use Rattle.std.specs.Global.{Vec}
use Rattle.std.specs.Int.{w32, to_le_bytes}

-- a record: its length in four bytes, low byte first, and then its bytes
abbrev pub packed : List ℕ → List ℕ
packed bytes = to_le_bytes w32 (length bytes) ++ bytes

-- the record that stands first, and what stands after it
abbrev pub IsFirst : List ℕ → List ℕ → List ℕ → Type 0
IsFirst bytes first rest = (length first < 2 ^ 32) × (bytes ≡ packed first ++ rest)

-- no record stands whole at the front
abbrev pub NoRecord : List ℕ → Type 0
NoRecord bytes = (first rest : List ℕ) → IsFirst bytes first rest → ⊥

-- `case N`, a line feed and the answer
abbrev pub case_text : ℕ → List ℕ → List ℕ
case_text n answer = codes "case " ++ (decimal n ++ (codes "\n" ++ answer))

-- R may return these bytes
abbrev pub ReturnsBytes : {E : Type 0} → (List ℕ → Result (Vec ℕ) E → Type 0) → List ℕ → List ℕ → Type 0
ReturnsBytes R input output = (answer : Vec ℕ) × R input (Ok answer) × (output ≡ answer.items)

-- the records of some bytes, numbered from n on, and what is printed for them where each answer is one that R gives
abbrev pub Told : (List ℕ → List ℕ → Type 0) → ℕ → List (List ℕ) → List ℕ → List ℕ → Type 0
Told R n [] bytes out = NoRecord bytes × (out ≡ [])
Told R n (r ∷ rs) bytes out = (rest answer more : List ℕ) × IsFirst bytes r rest × R r answer × (out ≡ case_text n answer ++ more) × Told R (n + 1) rs rest more
