-- States, what a slot does to one, and steps carried out one at a time.
use Rattle.std.specs.Prelude.{◌≡◌, ℕ, Bool, true, false, not, ◌&&◌, ◌||◌, List, [], ◌∷◌, ◌≢◌}
use Rattle.rules.specs.Lists.{In, any, has}
use Rattle.rules.specs.Steps.{Rule}
use Rattle.rules.specs.Problems.{Problem, step}

-- whether each fact is present
abbrev pub State : Type 0
State = ℕ → Bool

abbrev pub start_state : Problem → State
start_state p f = has f p.start

-- the state has all that the step needs
abbrev pub Finds : Problem → State → ℕ → Type 0
Finds p s a = (f : ℕ) → In f (p.needs a) → s f ≡ true

-- a slot, as its steps, is allowed in a state
pub record Allowed (p : Problem) (rule : Rule) (s : State) (slot : List ℕ) : Type 0 where
  pub finds : (a : ℕ) → In a slot → Finds p s a
  pub apart : (a b : ℕ) → In a slot → In b slot → (a ≢ b) → rule (step p a) (step p b) ≡ false

-- some step of the slot clears the fact
abbrev pub cleared : Problem → List ℕ → ℕ → Bool
cleared p slot f = any (λ a. has f (p.clears a)) slot

-- some step of the slot sets the fact
abbrev pub made : Problem → List ℕ → ℕ → Bool
made p slot f = any (λ a. has f (p.sets a)) slot

-- the state after a slot: the state before, without what its steps clear, with what they set
abbrev pub after : Problem → State → List ℕ → State
after p s slot f = s f && not (cleared p slot f) || made p slot f

-- the state after one step carried out
abbrev pub move : Problem → State → ℕ → State
move p s a f = s f && not (has f (p.clears a)) || has f (p.sets a)

-- the steps are carried out one at a time from s, each finding its needs, and s becomes e
abbrev pub CarriedOut : Problem → State → List ℕ → State → Type 0
CarriedOut p s [] e = (f : ℕ) → s f ≡ e f
CarriedOut p s (a ∷ more) e = Finds p s a × CarriedOut p (move p s a) more e
