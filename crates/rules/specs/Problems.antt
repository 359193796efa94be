-- Planning problems.
use Rattle.std.specs.Prelude.{ℕ, List}
use Rattle.std.specs.List.{range_with_len}
use Rattle.rules.specs.Lists.{In}
use Rattle.rules.specs.Steps.{Step}

-- facts 1 to `facts`, steps 1 to `steps`; `start` has the facts present at first, `goals` those that must be present at the end
pub record Problem : Type 0 where
  pub facts : ℕ
  pub steps : ℕ
  pub needs : ℕ → List ℕ
  pub sets : ℕ → List ℕ
  pub clears : ℕ → List ℕ
  pub start : List ℕ
  pub goals : List ℕ

abbrev pub facts_of : Problem → List ℕ
facts_of p = range_with_len 1 p.facts

abbrev pub steps_of : Problem → List ℕ
steps_of p = range_with_len 1 p.steps

abbrev pub step : Problem → ℕ → Step
step p a = record { number = a; needs = p.needs a; sets = p.sets a; clears = p.clears a }

-- only facts that there are, and no step both sets and clears one
pub record Sound (p : Problem) : Type 0 where
  pub never_both : (a f : ℕ) → In f (p.sets a) → In f (p.clears a) → ⊥
  pub needs_in : (a f : ℕ) → In f (p.needs a) → In f (facts_of p)
  pub sets_in : (a f : ℕ) → In f (p.sets a) → In f (facts_of p)
  pub clears_in : (a f : ℕ) → In f (p.clears a) → In f (facts_of p)
  pub goals_in : (f : ℕ) → In f p.goals → In f (facts_of p)
