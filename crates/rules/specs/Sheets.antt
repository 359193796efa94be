-- Sheets: which steps stand in which slots, when that holds, and its model.
use Rattle.std.specs.Prelude.{◌≡◌, ℕ, zero, suc, ◌+◌, ◌-◌, ◌/◌, ◌%◌, ◌<◌, Bool, true, cond, ◌⊎◌, List, [], ◌∷◌, map, filter, ◌==◌, nat_lt}
use Rattle.std.specs.List.{range_with_len, AllByRecursion}
use Rattle.rules.specs.declared.line.Line.{Line}
use Rattle.rules.specs.Lists.{In, has, each, only}
use Rattle.rules.specs.Steps.{Rule}
use Rattle.rules.specs.Problems.{Problem, steps_of}
use Rattle.rules.specs.States.{State, Allowed, after, start_state}
use Rattle.rules.specs.Clauses.{Valuation}
use Rattle.rules.specs.Formula.{width, step_var, vars}

-- by slot, then by step
abbrev pub Earlier : Line → Line → Type 0
Earlier l m = (l.slot < m.slot) ⊎ ((l.slot ≡ m.slot) × (l.step < m.step))

abbrev pub Rising : List Line → Type 0
Rising [] = Unit {0}
Rising (l ∷ ls) = AllByRecursion (Earlier l) ls × Rising ls

-- a sheet is its lines: they rise, and name slots and steps that there are
pub record Sheet (p : Problem) (horizon : ℕ) (lines : List Line) : Type 0 where
  pub rising : Rising lines
  pub slots_in : (l : Line) → In l lines → In l.slot (range_with_len 1 horizon)
  pub steps_in : (l : Line) → In l lines → In l.step (steps_of p)

-- the steps of slot t
abbrev pub slot : List Line → ℕ → List ℕ
slot lines t = each (λ l. only (l.slot == t) l.step) lines

-- the state after slot t, from the start on
abbrev pub state : Problem → List Line → ℕ → State
state p lines zero = start_state p
state p lines (suc t) = after p (state p lines t) (slot lines (suc t))

-- every slot is allowed in the state before it, and the last state has the goals
pub record Holds (p : Problem) (rule : Rule) (horizon : ℕ) (lines : List Line) : Type 0 where
  pub allowed : (t : ℕ) → t < horizon → Allowed p rule (state p lines t) (slot lines (suc t))
  pub reached : (f : ℕ) → In f p.goals → state p lines horizon f ≡ true

-- step a stands in slot t
abbrev pub chosen : List Line → ℕ → ℕ → Bool
chosen lines t a = has a (slot lines t)

-- what the sheet says of variable i + 1: whether the fact is present after its slot, or the step stands in its slot
abbrev pub valued : Problem → List Line → ℕ → Bool
valued p lines i = cond (nat_lt (i % width p) p.facts) (state p lines (i / width p) (i % width p + 1)) (chosen lines (suc (i / width p)) (i % width p - p.facts + 1))

-- the model of a sheet
abbrev pub model : Problem → ℕ → List Line → List Bool
model p horizon lines = map (valued p lines) (range_with_len 0 (vars p horizon))

-- the sheet that is read off the true step variables
abbrev pub sheet_of : Problem → ℕ → Valuation → List Line
sheet_of p horizon w = each (λ u. map (λ a. record { slot = suc u; step = a }) (filter (λ a. w (step_var p u a)) (steps_of p))) (range_with_len 0 horizon)
