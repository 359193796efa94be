-- Steps, and the slot rules that say which two may not stand in one slot.
use Rattle.std.specs.Prelude.{◌≡◌, ℕ, Bool, true, not, ◌||◌, ◌⊎◌, List, ◌==◌, ◌≢◌}
use Rattle.rules.specs.Lists.{In, shares}

-- a step by its number and its three sets of facts
pub record Step : Type 0 where
  pub number : ℕ
  pub needs : List ℕ
  pub sets : List ℕ
  pub clears : List ℕ

-- a slot rule answers for two different steps whether it parts them: they may not stand in one slot
abbrev pub Rule : Type 0
Rule = Step → Step → Bool

-- the law of slot rules; a rule is never asked of a step and itself
pub record Lawful (rule : Rule) : Type 0 where
  -- the order of the two does not matter
  pub symmetric : (a b : Step) → (a.number ≢ b.number) → rule a b ≡ rule b a
  -- two steps are parted where one clears a fact that the other needs or sets
  pub parts : (a b : Step) (f : ℕ) → (a.number ≢ b.number) → In f a.clears → In f b.needs ⊎ In f b.sets → rule a b ≡ true

-- every two are parted
abbrev pub single : Rule
single a b = not (a.number == b.number)

-- only what the law demands: four tests, the clears of one against the needs and the sets of the other
abbrev pub parallel : Rule
parallel a b = shares a.clears b.needs || (shares a.clears b.sets || (shares b.clears a.needs || shares b.clears a.sets))
