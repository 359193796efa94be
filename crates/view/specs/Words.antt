-- Words of text: the longest runs of bytes that are neither a space nor a line feed.
use Rattle.std.specs.Prelude.{◌≡◌, ℕ, ◌-◌, ◌<◌, Bool, false, cond, not, ◌||◌, List, [], ◌∷◌, length, drop, ◌==◌}

-- a space or a line feed
abbrev pub gap : ℕ → Bool
gap b = b == 32 || b == 10

-- whether a word stands first
abbrev pub in_word : List ℕ → Bool
in_word [] = false
in_word (b ∷ bs) = not (gap b)

-- one more byte before the first word
abbrev pub on_first : ℕ → List (List ℕ) → List (List ℕ)
on_first b [] = (b ∷ []) ∷ []
on_first b (w ∷ ws) = (b ∷ w) ∷ ws

-- from the right: a byte begins a word, or stands before the first one
abbrev pub words_of : List ℕ → List (List ℕ)
words_of [] = []
words_of (b ∷ bs) = cond (gap b) (words_of bs) (cond (in_word bs) (on_first b (words_of bs)) ((b ∷ []) ∷ words_of bs))

-- the first word of a text, and what stands after it
pub record NextWord (text word rest : List ℕ) : Type 0 where
  pub cuts : words_of text ≡ word ∷ words_of rest
  pub shorter : length rest < length text
  pub stands : rest ≡ drop (length text - length rest) text
