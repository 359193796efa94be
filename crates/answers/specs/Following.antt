-- An answer followed line by line.
use Rattle.std.specs.Prelude.{ℕ, ◌-◌, Bool, cond, ◌&&◌, List, [], ◌∷◌, length, ℤ, pos, negsuc, Some, None, Option, ◌==◌, nat_le, nat_lt, slice_index, slice_set, unsigned_abs}
use Rattle.std.specs.Str.{bytes_eq}
use Rattle.lines.specs.Numbers.{number_of}
use Rattle.answers.specs.declared.stage.Kind.{Kind}
use Rattle.answers.specs.declared.stage.Kind.TheVariants.{Comment, Claim, Values, Other}
use Rattle.answers.specs.declared.stage.Stage.{Stage}
use Rattle.answers.specs.declared.stage.Stage.TheVariants.{Before, Among, Past}
use Rattle.answers.specs.declared.status.Status.{Status}
use Rattle.answers.specs.declared.status.Status.TheVariants.{Satisfiable, Unsatisfiable, Unknown}
use Rattle.answers.specs.Rendering.{s_line}

-- what follows where there is something, else nothing
abbrev pub bind : {X Y : Type 0} → Option X → (X → Option Y) → Option Y
bind None f = None
bind (Some x) f = f x

-- a byte before the first line
abbrev pub grow : ℕ → List (List ℕ) → Option (List (List ℕ))
grow b [] = None
grow b (l ∷ ls) = Some ((b ∷ l) ∷ ls)

-- the lines of a text, each of which has its end
abbrev pub lines_of : List ℕ → Option (List (List ℕ))
lines_of [] = Some []
lines_of (b ∷ bs) = bind (lines_of bs) (λ ls. cond (b == 10) (Some ([] ∷ ls)) (grow b ls))

-- the word up to the first space
abbrev pub first_word : List ℕ → List ℕ
first_word [] = []
first_word (b ∷ bs) = cond (b == 32) [] (b ∷ first_word bs)

-- the words after the first, each after one space
abbrev pub later_words : List ℕ → List (List ℕ)
later_words [] = []
later_words (b ∷ bs) = cond (b == 32) (first_word bs ∷ later_words bs) (later_words bs)

-- the kind of a line, by its first character
abbrev pub kind_of : List ℕ → Kind
kind_of [] = Other
kind_of (b ∷ bs) = cond (b == 99) Comment (cond (b == 115) Claim (cond (b == 118) Values Other))

-- the status that an s line claims
abbrev pub claim_of : List ℕ → Option Status
claim_of l =
    cond (bytes_eq l (s_line Satisfiable)) (Some Satisfiable)
    (cond (bytes_eq l (s_line Unsatisfiable)) (Some Unsatisfiable)
    (cond (bytes_eq l (s_line Unknown)) (Some Unknown) None))

-- where an s line leads
abbrev pub opened : Status → Stage
opened Satisfiable = Among
opened Unsatisfiable = Past Unsatisfiable
opened Unknown = Past Unknown

-- an s line moves the reader on, and keeps what it has
abbrev pub opening : {M : Type 0} → M → Option Status → Option (Stage × M)
opening m None = None
opening m (Some s) = Some (opened s, m)

-- more v lines follow
abbrev pub still_among : {M : Type 0} → Option M → Option (Stage × M)
still_among None = None
still_among (Some m) = Some (Among, m)

-- the status, where no line is missing
abbrev pub finish : {M : Type 0} → Stage → M → Option (Status × M)
finish Before m = None
finish Among m = None
finish (Past s) m = Some (s, m)

-- For n variables; `take` puts a literal to what was read so far, or refuses it.
module _ {M : Type 0} (n : ℕ) (take : M → ℤ → Option M) where
  -- a word that is a literal
  abbrev pub take_word : M → List ℕ → Option M
  take_word m w = bind (number_of n w) (take m)

  -- the last word of a v line may be the closing 0
  abbrev pub last_word : M → List ℕ → Option (Stage × M)
  last_word m w = cond (bytes_eq w (48 ∷ [])) (Some (Past Satisfiable, m)) (still_among (take_word m w))

  -- the words of a v line: a first one and the others
  abbrev pub take_words : M → List ℕ → List (List ℕ) → Option (Stage × M)
  take_words m w [] = last_word m w
  take_words m w (v ∷ ws) = bind (take_word m w) (λ k. take_words k v ws)

  -- a v line: `v`, a space and words
  abbrev pub take_values : M → List ℕ → Option (Stage × M)
  take_values m [] = None
  take_values m (b ∷ []) = None
  take_values m (b ∷ c ∷ bs) = cond (b == 118 && c == 32) (take_words m (first_word bs) (later_words bs)) None

  -- where a line of a kind leads
  abbrev pub move : Kind → Stage → M → List ℕ → Option (Stage × M)
  move Comment at m l = Some (at, m)
  move Claim Before m l = opening m (claim_of l)
  move Claim Among m l = None
  move Claim (Past s) m l = None
  move Values Before m l = None
  move Values Among m l = take_values m l
  move Values (Past s) m l = None
  move Other at m l = None

  -- where a line leads
  abbrev pub step : Stage → M → List ℕ → Option (Stage × M)
  step at m l = move (kind_of l) at m l

  -- where the lines lead from a stage on
  abbrev pub follow : Stage → M → List (List ℕ) → Option (Status × M)
  follow at m [] = finish at m
  follow at m (l ∷ ls) = bind (step at m l) (λ p. follow p.0 p.1 ls)

  -- the status of a text, and what its literals make of m
  abbrev pub answer_of : M → List ℕ → Option (Status × M)
  answer_of m text = bind (lines_of text) (follow Before m)

-- the mark of a literal's variable: 1 where it is listed itself, 2 where its negative is; unlisted ones have 0
abbrev pub mark_of : ℤ → ℕ
mark_of (pos k) = 1
mark_of (negsuc k) = 2

-- the literal has a place among the marks, and its variable has no mark yet
abbrev pub free : List ℕ → ℤ → Bool
free marks l = (nat_lt 0 (unsigned_abs l) && nat_le (unsigned_abs l) (length marks)) && slice_index marks (unsigned_abs l - 1) == 0

-- the marks with one more literal
abbrev pub mark : List ℕ → ℤ → Option (List ℕ)
mark marks l = cond (free marks l) (Some (slice_set marks (unsigned_abs l - 1) (mark_of l))) None

-- The same with marks, which are as many as there are variables: a word, the words of a v line, a v line, a line, a text.
abbrev pub mark_word : List ℕ → List ℕ → Option (List ℕ)
mark_word marks word = take_word (length marks) mark marks word

abbrev pub mark_words : List ℕ → List ℕ → Option (Stage × List ℕ)
mark_words marks words = take_words (length marks) mark marks (first_word words) (later_words words)

abbrev pub mark_values : List ℕ → List ℕ → Option (Stage × List ℕ)
mark_values marks line = take_values (length marks) mark marks line

abbrev pub mark_line : Stage → List ℕ → List ℕ → Option (Stage × List ℕ)
mark_line at marks line = step (length marks) mark at marks line

abbrev pub mark_text : List ℕ → List ℕ → Option (Status × List ℕ)
mark_text marks text = answer_of (length marks) mark marks text
