-- The theorems on sheets and the formula.
use Rattle.std.specs.Prelude.{◌≡◌, ℕ, suc, ◌<◌, ◌≤◌, Bool, true, ◌↔◌, List}
use Rattle.std.specs.List.{range_with_len}
use Rattle.rules.specs.declared.line.Line.{Line}
use Rattle.rules.specs.Lists.{In, Once, each}
use Rattle.rules.specs.Steps.{Rule, Lawful, single, parallel}
use Rattle.rules.specs.Problems.{Problem, Sound, facts_of, steps_of}
use Rattle.rules.specs.States.{State, Allowed, after, start_state, CarriedOut}
use Rattle.rules.specs.Clauses.{Model, value}
use Rattle.rules.specs.Formula.{vars, fact_var, step_var, formula}
use Rattle.rules.specs.Sheets.{Sheet, Holds, slot, state, chosen, model, sheet_of}

-- the models of the formula are exactly the models of the sheets that hold, one for each
pub record ModelsAreSheets (p : Problem) (rule : Rule) (horizon : ℕ) : Type 0 where
  -- the model of a sheet that holds is a model of the formula
  pub encodes : (lines : List Line) → Sheet p horizon lines → Holds p rule horizon lines → Model (vars p horizon) (formula p rule horizon) (model p horizon lines)
  -- each model of the formula is the model of a sheet that holds
  pub decodes : (vs : List Bool) → Model (vars p horizon) (formula p rule horizon) vs → Sheet p horizon (sheet_of p horizon (value vs)) × Holds p rule horizon (sheet_of p horizon (value vs)) × (model p horizon (sheet_of p horizon (value vs)) ≡ vs)
  -- two sheets with one model are the same sheet
  pub one_each : (lines other : List Line) → Sheet p horizon lines → Sheet p horizon other → model p horizon lines ≡ model p horizon other → lines ≡ other
  -- the model makes true exactly the facts of each state and the steps in their slots
  pub facts_read : (lines : List Line) (t f : ℕ) → t ≤ horizon → In f (facts_of p) → value (model p horizon lines) (fact_var p t f) ≡ state p lines t f
  pub steps_read : (lines : List Line) (u a : ℕ) → u < horizon → In a (steps_of p) → value (model p horizon lines) (step_var p u a) ≡ chosen lines (suc u) a

abbrev pub FormulaMeansSheets : Type 0
FormulaMeansSheets = (p : Problem) → Sound p → (rule : Rule) → Lawful rule → (horizon : ℕ) → ModelsAreSheets p rule horizon

-- an order of a slot: a list without repetition with the slot's members
pub record OrderOf (slot order : List ℕ) : Type 0 where
  pub once : Once order
  pub same : (a : ℕ) → In a order ↔ In a slot

-- an allowed slot can be carried out one step at a time, in any order, and ends in the slot's state
abbrev pub AnyOrder : Type 0
AnyOrder = (p : Problem) (rule : Rule) → Lawful rule → (s : State) (slot : List ℕ) → Allowed p rule s slot → (order : List ℕ) → OrderOf slot order → CarriedOut p s order (after p s slot)

-- a sheet that holds can be carried out, whatever the order inside each slot: every step finds its needs, each slot ends in the sheet's state, and the goals are reached
pub record CanBeDone (p : Problem) (rule : Rule) (horizon : ℕ) (lines : List Line) (orders : ℕ → List ℕ) : Type 0 where
  pub slots_end : (t : ℕ) → t ≤ horizon → CarriedOut p (start_state p) (each orders (range_with_len 1 t)) (state p lines t)
  pub goals_reached : (f : ℕ) → In f p.goals → state p lines horizon f ≡ true

abbrev pub SheetsCanBeDone : Type 0
SheetsCanBeDone = (p : Problem) (rule : Rule) → Lawful rule → (horizon : ℕ) (lines : List Line) → Holds p rule horizon lines → (orders : ℕ → List ℕ) → ((t : ℕ) → OrderOf (slot lines t) (orders t)) → CanBeDone p rule horizon lines orders

-- both rules keep the law
abbrev pub SingleLawful : Type 0
SingleLawful = Lawful single

abbrev pub ParallelLawful : Type 0
ParallelLawful = Lawful parallel
