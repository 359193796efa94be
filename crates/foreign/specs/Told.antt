-- What a call from another language is told: the cells used, or minus the number of the refusal.
use Rattle.std.specs.Prelude.{◌≡◌, ℕ, min, cond, not, ◌||◌, ◌⊎◌, List, [], ◌∷◌, ℤ, pos, neg_ℤ, Ok, Err, Result, ◌==◌}
use Rattle.rules.specs.declared.refusal.Refusal.{Refusal}
use Rattle.rules.specs.Refusals.{number, answer}
use Rattle.rules.specs.declared.line.Line.{Line}
use Rattle.rules.specs.Checks.{first_refusal, Tests, Answers}
use Rattle.rules.specs.Problems.{Problem}
use Rattle.rules.specs.Sheets.{model}
use Rattle.checking.specs.Told.{bytes_of}
use Rattle.answers.specs.declared.status.Status.{Status}
use Rattle.answers.specs.declared.status.Status.TheVariants.{Satisfiable, Unsatisfiable, Unknown}
use Rattle.answers.specs.Answered.{Answered}
use Rattle.rules.specs.Clauses.{Clause}
use Rattle.problem.specs.Listed.{problem_of}
use Rattle.problem.specs.Verdict.{verdict}
use Rattle.planner.specs.Encoded.{encode_checks}
use Rattle.requests.specs.Written.{rule_of}

-- what a granted call answers is told by t, and a refusal as minus its number
abbrev pub told_by : {T : Type 0} → (T → ℤ) → Result T Refusal → ℤ
told_by t (Ok x) = t x
told_by t (Err e) = neg_ℤ (pos (number e))

-- a count past 2^47 - 1 is told as that
abbrev pub used_told : ℕ → ℤ
used_told n = pos (min n 140737488355327)

abbrev pub told_of : Result ℕ Refusal → ℤ
told_of = told_by used_told

-- the problem first, then the rule's number, then encode's own checks
abbrev pub call_verdict : List ℕ → ℕ → ℕ → ℕ → ℕ → (Clause → ℕ) → ℕ
call_verdict s t rule widest given cost =
    cond (not (verdict s == 0)) (verdict s)
    (cond (rule == 1 || rule == 2) (first_refusal (encode_checks (problem_of s) (rule_of rule) t [] widest given cost)) 7)

-- the answer r is that of a call which refused by its verdict and left this memory
pub record Called {X : Type 0} (verdict : ℕ) (after : Result ℕ Refusal → List X → Type 0) (memory : List X) (r : ℤ) : Type 0 where
  pub call : Result ℕ Refusal
  pub told : r ≡ told_of call
  pub refuses : answer call ≡ verdict
  pub whole_memory : after call memory

-- the problem first, then the rule's number, then the call's own tests
abbrev pub by_number : List ℕ → ℕ → Tests → Tests
by_number s rule tests = (verdict s, verdict s ≡ 0) ∷ (7, (rule ≡ 1) ⊎ (rule ≡ 2)) ∷ tests

-- the answer r is that of a call which answered by these tests and left this memory
pub record TestsCalled {X Y : Type 0} (tests : Tests) (tell : Result Y Refusal → ℤ) (after : Result Y Refusal → List X → Type 0) (memory : List X) (r : ℤ) : Type 0 where
  pub call : Result Y Refusal
  pub told : r ≡ tell call
  pub answers : Answers tests (answer call)
  pub whole_memory : after call memory

-- 0 where the call grants
abbrev pub nothing_told : Unit {0} → ℤ
nothing_told u = pos 0

abbrev pub done_told : Result Unit Refusal → ℤ
done_told = told_by nothing_told

-- granted, the truth bytes are those of the sheet's model; refused, they are as they were
abbrev pub truth_after : Problem → ℕ → List Line → List ℕ → Result Unit Refusal → List ℕ → Type 0
truth_after p t lines before (Ok u) after = after ≡ bytes_of (model p t lines)
truth_after p t lines before (Err e) after = after ≡ before

abbrev pub status_number : Status → ℤ
status_number Satisfiable = pos 1
status_number Unsatisfiable = pos 2
status_number Unknown = pos 3

abbrev pub status_told : Result Status Refusal → ℤ
status_told = told_by status_number

-- the answer r is that of reading this text
pub record AnswerCalled (variables : ℕ) (text before after : List ℕ) (r : ℤ) : Type 0 where
  pub call : Result Status Refusal
  pub told : r ≡ status_told call
  pub answered : Answered variables text before after call
