-- Lines that are added to a list, slot by slot.
use Rattle.std.specs.Prelude.{◌≡◌, ℕ, suc, cond, ◌++◌, map, length, drop, is_ok, filter, Result}
use mathlib.Core.List as L
use Rattle.std.specs.List.{range_with_len}
use Rattle.rules.specs.declared.line.Line.{Line}
use Rattle.rules.specs.declared.refusal.Refusal.{Refusal}
use Rattle.rules.specs.Checks.{Answers}
use Rattle.rules.specs.Refusals.{answer}
use Rattle.rules.specs.Lists.{each}
use Rattle.rules.specs.Steps.{Rule}
use Rattle.rules.specs.Problems.{Problem}
use Rattle.rules.specs.Clauses.{Valuation, value}
use Rattle.rules.specs.Formula.{step_var}
use Rattle.rules.specs.Sheets.{sheet_of}
use Rattle.memory.specs.declared.lent_list.List.{List}
use Rattle.memory.specs.Held.{items, spare, room, lent}
use Rattle.checking.specs.Told.{told}
use Rattle.decoding.specs.Decode.{decode_tests}

-- the lines of slot u + 1 for n steps from step a on
abbrev pub lines_from : Problem → Valuation → ℕ → ℕ → ℕ → L.List Line
lines_from p w u a n = map (λ b. record { slot = suc u; step = b }) (filter (λ b. w (step_var p u b)) (range_with_len a n))

-- the lines of slot u + 1
abbrev pub slot_lines : Problem → Valuation → ℕ → L.List Line
slot_lines p w u = lines_from p w u 1 p.steps

-- the lines of n slots from slot u + 1 on
abbrev pub slots_from : Problem → Valuation → ℕ → ℕ → L.List Line
slots_from p w u n = each (slot_lines p w) (range_with_len u n)

-- the lines were added to list a, which is then list b
pub record Written (a : List Line) (lines : L.List Line) (b : List Line) : Type 0 where
  pub holds : items b ≡ items a ++ lines
  pub rest : spare b ≡ drop (length lines) (spare a)
  pub same_room : room b ≡ room a
  pub same_loan : lent b ≡ lent a

-- granted, the sheet is all that the list holds, over the same memory; refused, nothing changed
pub record Decodes (p : Problem) (rule : Rule) (horizon : ℕ) (truth : L.List ℕ) (a : List Line) (r : Result Unit Refusal) (b : List Line) : Type 0 where
  pub answers : Answers (decode_tests p rule horizon truth (room a)) (answer r)
  pub holds : items b ≡ cond (is_ok r) (sheet_of p horizon (value (told truth))) (items a)
  pub rest : spare b ≡ cond (is_ok r) (drop (length (sheet_of p horizon (value (told truth)))) (items a ++ spare a)) (spare a)
  pub same_room : room b ≡ room a
  pub same_loan : lent b ≡ lent a
