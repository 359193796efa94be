-- V, C and L of a formula, and what a tally counts.
use Rattle.std.specs.Prelude.{◌≡◌, ℕ, ◌+◌, ◌^◌, ◌<◌, ◌≤◌, length, Ok, Err, Result}
use Rattle.rules.specs.declared.refusal.Refusal.{Refusal}
use Rattle.rules.specs.Refusals.{number}
use Rattle.rules.specs.Steps.{Rule}
use Rattle.rules.specs.Problems.{Problem}
use Rattle.rules.specs.Clauses.{Clause, literals}
use Rattle.rules.specs.Formula.{vars, formula}
use Rattle.formula.specs.declared.tally.Tally.{Tally}

-- one clause more; a count that would not fit is not told
pub record Counted (a : Tally) (c : Clause) (b : Tally) : Type 0 where
  pub one : a.clauses + 1 < 2 ^ 64 → b.clauses ≡ a.clauses + 1
  pub some : a.literals + length c < 2 ^ 64 → b.literals ≡ a.literals + length c

-- the counts of variables, clauses and literals
pub record SizesAre (p : Problem) (rule : Rule) (horizon : ℕ) (s : ℕ × ℕ × ℕ) : Type 0 where
  pub variables : s.0 ≡ vars p horizon
  pub clauses : s.1 ≡ length (formula p rule horizon)
  pub all_literals : s.2 ≡ literals (formula p rule horizon)

-- what sizes answers: 7 where the horizon is above 32, and else the three counts
abbrev pub SizesAsked : Problem → Rule → ℕ → Result (ℕ × ℕ × ℕ) Refusal → Type 0
SizesAsked p rule horizon (Err e) = (32 < horizon) × (number e ≡ 7)
SizesAsked p rule horizon (Ok s) = (horizon ≤ 32) × SizesAre p rule horizon s
