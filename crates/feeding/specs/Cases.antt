-- Inputs as cases, one after another, and what is printed for the first 99,999 of them.
use Rattle.std.specs.Prelude.{◌≡◌, ℕ, ◌+◌, ◌^◌, ◌<◌, List, [], ◌∷◌, ◌++◌, length, take}
use Rattle.std.specs.Int.{w32, to_le_bytes}
use Rattle.feeding.specs.Records.{case_text}

-- a case is an input with a shorter length before it than a record's: three bytes, low byte first, a fourth byte that is passed over, and then its bytes
abbrev pub packed_case : ℕ → List ℕ → List ℕ
packed_case fourth bytes = take 3 (to_le_bytes w32 (length bytes)) ++ fourth ∷ bytes

-- the case that stands first, and what stands after it
abbrev pub IsFirstCase : List ℕ → List ℕ → List ℕ → Type 0
IsFirstCase bytes first rest = (length first < 2 ^ 24) × (fourth : ℕ) × (bytes ≡ packed_case fourth first ++ rest)

-- no case stands whole at the front
abbrev pub NoCase : List ℕ → Type 0
NoCase bytes = (first rest : List ℕ) → IsFirstCase bytes first rest → ⊥

-- the cases of some bytes, numbered from n on and below 100,000, and what is printed for them where each answer is one that R gives: they end where no case stands, or at that number
abbrev pub ToldCases : (List ℕ → List ℕ → Type 0) → ℕ → List (List ℕ) → List ℕ → List ℕ → Type 0
ToldCases R n [] bytes out = (n < 100000 → NoCase bytes) × (out ≡ [])
ToldCases R n (r ∷ rs) bytes out = (n < 100000) × (rest answer more : List ℕ) × IsFirstCase bytes r rest × R r answer × (out ≡ case_text n answer ++ more) × ToldCases R (n + 1) rs rest more
