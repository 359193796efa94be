-- What `sheet` prints for every input, case by case.
use Rattle.std.specs.Prelude.{◌≡◌, ℕ, ◌+◌, ◌*◌, min, Bool, cond, ◌⊎◌, List, length, take, drop, ℤ, codes, nat_lt}
use Rattle.rules.specs.declared.line.Line.{Line}
use Rattle.rules.specs.Steps.{Rule}
use Rattle.rules.specs.Problems.{Problem}
use Rattle.rules.specs.Clauses.{Model}
use Rattle.rules.specs.Formula.{vars, formula}
use Rattle.rules.specs.Sheets.{Sheet, Holds, model}
use Rattle.problem.specs.Bytes.{pairs}
use Rattle.problem.specs.Listed.{problem_of}
use Rattle.problem.specs.Verdict.{verdict}
use Rattle.checking.specs.Told.{told}
use Rattle.answers.specs.declared.status.Status.{Status}
use Rattle.answers.specs.declared.status.Status.TheVariants.{Satisfiable, Unsatisfiable, Unknown}
use Rattle.answers.specs.Rendering.{Rendering}
use Rattle.answers.specs.Answered.{truth_of}
use Rattle.requests.specs.Printed.{refused_line}
use Rattle.requests.specs.Written.{horizon, rule_number, rule_of, rest, request_verdict}
use Rattle.sheet_call.specs.Printed.{sheet_text}

-- how many of these bytes are the problem's: up to where its P says, or all
abbrev pub problem_length : List ℕ → ℕ
problem_length s = cond (nat_lt (length s) 6) (length s) (min (6 + 4 * pairs s) (length s))

-- the problem's bytes in an input, and the answer after them
abbrev pub problem_in : List ℕ → List ℕ
problem_in s = take (problem_length (rest s)) (rest s)

abbrev pub answer_in : List ℕ → List ℕ
answer_in s = drop (problem_length (rest s)) (rest s)

-- the lines of a sheet that holds, whose model the truth values are
pub record SheetPrinted (p : Problem) (rule : Rule) (t : ℕ) (values : List Bool) (out : List ℕ) : Type 0 where
  pub lines : List Line
  pub sheet : Sheet p t lines
  pub holds : Holds p rule t lines
  pub modelled : model p t lines ≡ values
  pub text : out ≡ sheet_text lines

-- 15: the truth values are no model, so no sheet that holds has them
pub record NoModel (p : Problem) (rule : Rule) (t : ℕ) (values : List Bool) (out : List ℕ) : Type 0 where
  pub none : Model (vars p t) (formula p rule t) values → ⊥
  pub text : out ≡ refused_line 15

-- what is printed for an answer of each status
abbrev pub PrintsStatus : Problem → Rule → ℕ → Status → List ℤ → List ℕ → Type 0
PrintsStatus p rule t Satisfiable literals out = SheetPrinted p rule t (told (truth_of (vars p t) literals)) out ⊎ NoModel p rule t (told (truth_of (vars p t) literals)) out
PrintsStatus p rule t Unsatisfiable literals out = out ≡ codes "none claimed\n"
PrintsStatus p rule t Unknown literals out = out ≡ codes "unknown\n"

-- the text is an answer
pub record Replied (p : Problem) (rule : Rule) (t : ℕ) (text out : List ℕ) : Type 0 where
  pub status : Status
  pub literals : List ℤ
  pub renders : Rendering (vars p t) text status literals
  pub prints : PrintsStatus p rule t status literals out

-- 13: it is none
pub record NoReply (p : Problem) (t : ℕ) (text out : List ℕ) : Type 0 where
  pub none : (status : Status) (literals : List ℤ) → Rendering (vars p t) text status literals → ⊥
  pub says : out ≡ refused_line 13

-- the two numbers are refused, and with them the input
pub record IsBadRequest (s out : List ℕ) : Type 0 where
  pub refused : request_verdict s ≡ 0 → ⊥
  pub says : out ≡ refused_line (request_verdict s)

-- the problem is refused
pub record BadProblem (s out : List ℕ) : Type 0 where
  pub asked : request_verdict s ≡ 0
  pub refused : verdict (problem_in s) ≡ 0 → ⊥
  pub says : out ≡ refused_line (verdict (problem_in s))

-- the problem is granted, and the answer told
pub record AnswerTold (s out : List ℕ) : Type 0 where
  pub asked : request_verdict s ≡ 0
  pub granted : verdict (problem_in s) ≡ 0
  pub tells : Replied (problem_of (problem_in s)) (rule_of (rule_number s)) (horizon s) (answer_in s) out ⊎ NoReply (problem_of (problem_in s)) (horizon s) (answer_in s) out

-- what is printed for an input
abbrev pub SheetTold : List ℕ → List ℕ → Type 0
SheetTold s out = IsBadRequest s out ⊎ BadProblem s out ⊎ AnswerTold s out
