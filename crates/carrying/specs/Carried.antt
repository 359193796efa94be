-- One step carried out, where a state is the set of the facts that are present.
use Rattle.std.specs.Prelude.{◌≡◌, ℕ, true, not, ◌&&◌, ◌||◌, [], ◌∷◌, Some, None, Option}
use Rattle.rules.specs.Lists.{has}
use Rattle.rules.specs.Problems.{Problem, step}
use Rattle.rules.specs.States.{State, Finds, CarriedOut}
use Rattle.steps.specs.declared.fact_set.FactSet.{FactSet}
use Rattle.steps.specs.declared.step_record.StepRecord.{StepRecord}
use Rattle.steps.specs.Sets.{facts_in, meaning}

-- the state in which just these facts are present
abbrev pub state_of : FactSet → State
state_of s f = has f (facts_in s)

-- the state has all that the step needs
abbrev pub FindsNeeds : StepRecord → FactSet → Type 0
FindsNeeds r s = (f : ℕ) → has f (facts_in r.needs) ≡ true → state_of s f ≡ true

-- nothing where the step does not find its needs; else the state before, without what the step clears, with what it sets
abbrev pub Carried : StepRecord → FactSet → Option FactSet → Type 0
Carried r s None = FindsNeeds r s → ⊥
Carried r s (Some e) = FindsNeeds r s × ((f : ℕ) → state_of e f ≡ (state_of s f && not (has f (facts_in r.clears)) || has f (facts_in r.sets)))

-- the same of step a of a problem
abbrev pub Carries : Problem → ℕ → FactSet → Option FactSet → Type 0
Carries p a s None = Finds p (state_of s) a → ⊥
Carries p a s (Some e) = CarriedOut p (state_of s) (a ∷ []) (state_of e)

-- whatever problem's step the record stands for, that step is carried out
abbrev pub CarriesStep : StepRecord → FactSet → Option FactSet → Type 0
CarriesStep r s e = (p : Problem) (a : ℕ) → meaning r ≡ step p a → Carries p a s e
