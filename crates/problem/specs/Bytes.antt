-- Where the numbers of a problem stand in its bytes. Total on every list.
use Rattle.std.specs.Prelude.{◌≡◌, ℕ, ◌+◌, ◌*◌, ◌≤◌, List, [], ◌∷◌, length, slice_index}

-- the unsigned 16-bit number at a byte, low byte first
abbrev pub word : List ℕ → ℕ → ℕ
word s at = slice_index s at + 256 * slice_index s (at + 1)

-- F, A and P
abbrev pub facts : List ℕ → ℕ
facts s = word s 0

abbrev pub steps : List ℕ → ℕ
steps s = word s 2

abbrev pub pairs : List ℕ → ℕ
pairs s = word s 4

-- the code and the fact of pair i, from 0: two arrays, the codes first
abbrev pub code : List ℕ → ℕ → ℕ
code s i = word s (6 + 2 * i)

abbrev pub fact : List ℕ → ℕ → ℕ
fact s i = word s (6 + 2 * pairs s + 2 * i)

-- the bytes are as long as their own head says, and these are the numbers of the head
pub record Sized (s : List ℕ) (f a p : ℕ) : Type 0 where
  pub long : length s ≡ 6 + 4 * p
  pub is_facts : f ≡ facts s
  pub is_steps : a ≡ steps s
  pub is_pairs : p ≡ pairs s
  pub few_facts : f ≤ 64
  pub few_steps : a ≤ 128

-- a problem with one fact, no step and no pair
abbrev pub fresh : List ℕ
fresh = 1 ∷ 0 ∷ 0 ∷ 0 ∷ 0 ∷ 0 ∷ []
