-- The formula of a problem at a horizon: its variables, and its clauses in their exact order.
use Rattle.std.specs.Prelude.{ℕ, suc, ◌+◌, ◌-◌, ◌*◌, cond, List, [], ◌∷◌, ◌++◌, map, filter}
use Rattle.std.specs.List.{range_with_len}
use Rattle.rules.specs.Lists.{has, each, only}
use Rattle.rules.specs.Steps.{Rule}
use Rattle.rules.specs.Problems.{Problem, step, facts_of, steps_of}
use Rattle.rules.specs.Clauses.{Clause, aye, nay}

module _ (p : Problem) where
  abbrev pub width : ℕ
  width = p.facts + p.steps

  -- fact f after slot t, from 0
  abbrev pub fact_var : ℕ → ℕ → ℕ
  fact_var t f = t * width + f

  -- step a in slot u + 1
  abbrev pub step_var : ℕ → ℕ → ℕ
  step_var u a = u * width + p.facts + a

  -- V, how many variables there are
  abbrev pub vars : ℕ → ℕ
  vars horizon = horizon * width + p.facts

  -- the fact at the start, negative if absent
  abbrev pub start_cell : ℕ → List Clause
  start_cell f = (cond (has f p.start) (aye (fact_var 0 f)) (nay (fact_var 0 f)) ∷ []) ∷ []

  abbrev pub start_clauses : List Clause
  start_clauses = each start_cell (facts_of p)

  -- by step, then fact: a step in slot u + 1 needs the fact before it
  abbrev pub needs_cell : ℕ → ℕ → ℕ → List Clause
  needs_cell u a f = only (has f (p.needs a)) (nay (step_var u a) ∷ aye (fact_var u f) ∷ [])

  abbrev pub needs_clauses : ℕ → List Clause
  needs_clauses u = each (λ a. each (needs_cell u a) (facts_of p)) (steps_of p)

  -- it makes the fact present after it
  abbrev pub sets_cell : ℕ → ℕ → ℕ → List Clause
  sets_cell u a f = only (has f (p.sets a)) (nay (step_var u a) ∷ aye (fact_var (suc u) f) ∷ [])

  abbrev pub sets_clauses : ℕ → List Clause
  sets_clauses u = each (λ a. each (sets_cell u a) (facts_of p)) (steps_of p)

  -- it makes the fact absent after it
  abbrev pub clears_cell : ℕ → ℕ → ℕ → List Clause
  clears_cell u a f = only (has f (p.clears a)) (nay (step_var u a) ∷ nay (fact_var (suc u) f) ∷ [])

  abbrev pub clears_clauses : ℕ → List Clause
  clears_clauses u = each (λ a. each (clears_cell u a) (facts_of p)) (steps_of p)

  -- a fact that appears was set by a step
  abbrev pub comes : ℕ → ℕ → Clause
  comes u f = aye (fact_var u f) ∷ nay (fact_var (suc u) f) ∷ map (λ a. aye (step_var u a)) (filter (λ a. has f (p.sets a)) (steps_of p))

  -- a fact that is lost was cleared by a step
  abbrev pub goes : ℕ → ℕ → Clause
  goes u f = nay (fact_var u f) ∷ aye (fact_var (suc u) f) ∷ map (λ a. aye (step_var u a)) (filter (λ a. has f (p.clears a)) (steps_of p))

  abbrev pub frame_cell : ℕ → ℕ → List Clause
  frame_cell u f = comes u f ∷ goes u f ∷ []

  abbrev pub frame_clauses : ℕ → List Clause
  frame_clauses u = each (frame_cell u) (facts_of p)

  -- two steps a < b that the rule parts are not both in the slot
  abbrev pub parted_cell : Rule → ℕ → ℕ → ℕ → List Clause
  parted_cell rule u a b = only (rule (step p a) (step p b)) (nay (step_var u a) ∷ nay (step_var u b) ∷ [])

  abbrev pub parted_clauses : Rule → ℕ → List Clause
  parted_clauses rule u = each (λ a. each (parted_cell rule u a) (range_with_len (a + 1) (p.steps - a))) (steps_of p)

  -- the clauses of slot u + 1
  abbrev pub slot_clauses : Rule → ℕ → List Clause
  slot_clauses rule u = needs_clauses u ++ (sets_clauses u ++ (clears_clauses u ++ (frame_clauses u ++ parted_clauses rule u)))

  -- the goals are present after the last slot
  abbrev pub goal_cell : ℕ → ℕ → List Clause
  goal_cell horizon f = only (has f p.goals) (aye (fact_var horizon f) ∷ [])

  abbrev pub goal_clauses : ℕ → List Clause
  goal_clauses horizon = each (goal_cell horizon) (facts_of p)

  abbrev pub formula : Rule → ℕ → List Clause
  formula rule horizon = start_clauses ++ (each (slot_clauses rule) (range_with_len 0 horizon) ++ goal_clauses horizon)
