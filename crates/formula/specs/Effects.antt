-- The clauses by step and fact, and the literals of the steps that change a fact, by what the step does.
use Rattle.std.specs.Prelude.{ℕ, suc, List, map, ℤ, filter}
use Rattle.rules.specs.Lists.{has, each}
use Rattle.rules.specs.Problems.{Problem, facts_of, steps_of}
use Rattle.rules.specs.Clauses.{Clause, aye, nay}
use Rattle.rules.specs.Formula.{needs_cell, sets_cell, clears_cell, fact_var, step_var}
use Rattle.problem.specs.declared.part.Part.{Part}
use Rattle.problem.specs.declared.part.Part.TheVariants.{Needs, Sets, Clears}
use Rattle.problem.specs.Tables.{part_of}

abbrev pub effect_cell : Problem → Part → ℕ → ℕ → ℕ → List Clause
effect_cell p Needs = needs_cell p
effect_cell p Sets = sets_cell p
effect_cell p Clears = clears_cell p

abbrev pub effect_row : Problem → Part → ℕ → ℕ → List Clause
effect_row p part u a = each (effect_cell p part u a) (facts_of p)

abbrev pub effect_clauses : Problem → Part → ℕ → List Clause
effect_clauses p part u = each (effect_row p part u) (steps_of p)

-- what the step says of the fact: needed before, present after, absent after
abbrev pub effect_literal : Problem → Part → ℕ → ℕ → ℤ
effect_literal p Needs u f = aye (fact_var p u f)
effect_literal p Sets u f = aye (fact_var p (suc u) f)
effect_literal p Clears u f = nay (fact_var p (suc u) f)

-- the steps among js that do this to the fact, as literals
abbrev pub doers : Problem → Part → ℕ → ℕ → List ℕ → List ℤ
doers p part u f js = map (λ a. aye (step_var p u a)) (filter (λ a. has f (part_of p part a)) js)
