-- The worked examples: what the definitions that the calls' contracts cite give for two small problems. Each row starts at bytes.
use Rattle.std.specs.Prelude.{◌≡◌, ℕ, ◌-◌, Bool, true, false, List, [], ◌∷◌, ◌++◌, length, pos, codes}
use Rattle.std.specs.List.{AllByRecursion}
use Rattle.rules.specs.declared.line.Line.{Line}
use Rattle.rules.specs.Checks.{first_refusal, Answers}
use Rattle.rules.specs.Steps.{Rule, single, parallel}
use Rattle.rules.specs.Clauses.{Clause, Model, value, total}
use Rattle.rules.specs.Formula.{vars, formula}
use Rattle.rules.specs.Sheets.{Sheet, Holds, model, sheet_of}
use Rattle.clauses.specs.Rows.{word_cost}
use Rattle.problem.specs.Listed.{problem_of}
use Rattle.problem.specs.Verdict.{verdict}
use Rattle.formula.specs.Sizes.{SizesAre}
use Rattle.planner.specs.Encoded.{encode_checks}
use Rattle.checking.specs.Told.{told, bytes_of}
use Rattle.decoding.specs.Decode.{decode_tests}
use Rattle.assigning.specs.Assign.{assign_tests}
use Rattle.requests.specs.Written.{written}
use Rattle.sheet_call.specs.Replied.{SheetTold}

-- two facts and two steps; step 1 sets fact 1, and step 2 needs and clears it, and sets fact 2, the goal: 2 2 5, codes 1 5 8 9 10, facts 2 1 1 2 1
abbrev pub relay : List ℕ
relay = 2 ∷ 0 ∷ 2 ∷ 0 ∷ 5 ∷ 0 ∷ 1 ∷ 0 ∷ 5 ∷ 0 ∷ 8 ∷ 0 ∷ 9 ∷ 0 ∷ 10 ∷ 0 ∷ 2 ∷ 0 ∷ 1 ∷ 0 ∷ 1 ∷ 0 ∷ 2 ∷ 0 ∷ 1 ∷ 0 ∷ []

-- two facts, both goals, and two steps, each of which sets one: 2 2 4, codes 1 1 5 9, facts 1 2 1 2
abbrev pub swap : List ℕ
swap = 2 ∷ 0 ∷ 2 ∷ 0 ∷ 4 ∷ 0 ∷ 1 ∷ 0 ∷ 1 ∷ 0 ∷ 5 ∷ 0 ∷ 9 ∷ 0 ∷ 1 ∷ 0 ∷ 2 ∷ 0 ∷ 1 ∷ 0 ∷ 2 ∷ 0 ∷ []

-- relay with code 11 in place of 10: of that kind there is no pair
abbrev pub no_such_pair : List ℕ
no_such_pair = 2 ∷ 0 ∷ 2 ∷ 0 ∷ 5 ∷ 0 ∷ 1 ∷ 0 ∷ 5 ∷ 0 ∷ 8 ∷ 0 ∷ 9 ∷ 0 ∷ 11 ∷ 0 ∷ 2 ∷ 0 ∷ 1 ∷ 0 ∷ 1 ∷ 0 ∷ 2 ∷ 0 ∷ 1 ∷ 0 ∷ []

-- relay with the codes 8 and 5 exchanged
abbrev pub falling_pairs : List ℕ
falling_pairs = 2 ∷ 0 ∷ 2 ∷ 0 ∷ 5 ∷ 0 ∷ 1 ∷ 0 ∷ 8 ∷ 0 ∷ 5 ∷ 0 ∷ 9 ∷ 0 ∷ 10 ∷ 0 ∷ 2 ∷ 0 ∷ 1 ∷ 0 ∷ 1 ∷ 0 ∷ 2 ∷ 0 ∷ 1 ∷ 0 ∷ []

-- relay with fact 1 in place of 2 among what step 2 sets: it clears that fact too
abbrev pub set_and_cleared : List ℕ
set_and_cleared = 2 ∷ 0 ∷ 2 ∷ 0 ∷ 5 ∷ 0 ∷ 1 ∷ 0 ∷ 5 ∷ 0 ∷ 8 ∷ 0 ∷ 9 ∷ 0 ∷ 10 ∷ 0 ∷ 2 ∷ 0 ∷ 1 ∷ 0 ∷ 1 ∷ 0 ∷ 1 ∷ 0 ∷ 1 ∷ 0 ∷ []

-- as many facts and steps as there may be, and no pair
abbrev pub wide : List ℕ
wide = 64 ∷ 0 ∷ 128 ∷ 0 ∷ 0 ∷ 0 ∷ []

-- an input of `write`: T and the rule's number, 1 single and 2 parallel, before a problem
abbrev pub request : ℕ → ℕ → List ℕ → List ℕ
request t rule bytes = t ∷ 0 ∷ rule ∷ 0 ∷ bytes

-- what `write` prints for an input
pub record Printed : Type 0 where
  pub input : List ℕ
  pub text : List ℕ

abbrev pub prints : List ℕ → List ℕ → Printed
prints input text = record { input = input; text = text }

abbrev pub Prints : Printed → Type 0
Prints row = written row.input ≡ row.text

abbrev pub texts : List Printed
texts =
    prints (request 0 1 relay) (codes "p cnf 2 3\n-1 0\n-2 0\n2 0\n")
    ∷ prints (request 0 2 relay) (codes "p cnf 2 3\n-1 0\n-2 0\n2 0\n")
    ∷ prints (request 1 1 relay) (codes "p cnf 6 12\n-1 0\n-2 0\n-4 1 0\n-3 5 0\n-4 6 0\n-4 -5 0\n1 -5 3 0\n-1 5 4 0\n2 -6 4 0\n-2 6 0\n-3 -4 0\n6 0\n")
    ∷ prints (request 1 2 relay) (codes "p cnf 6 12\n-1 0\n-2 0\n-4 1 0\n-3 5 0\n-4 6 0\n-4 -5 0\n1 -5 3 0\n-1 5 4 0\n2 -6 4 0\n-2 6 0\n-3 -4 0\n6 0\n")
    ∷ prints (request 2 1 relay) (codes "p cnf 10 21\n-1 0\n-2 0\n-4 1 0\n-3 5 0\n-4 6 0\n-4 -5 0\n1 -5 3 0\n-1 5 4 0\n2 -6 4 0\n-2 6 0\n-3 -4 0\n-8 5 0\n-7 9 0\n-8 10 0\n-8 -9 0\n5 -9 7 0\n-5 9 8 0\n6 -10 8 0\n-6 10 0\n-7 -8 0\n10 0\n")
    ∷ prints (request 2 2 relay) (codes "p cnf 10 21\n-1 0\n-2 0\n-4 1 0\n-3 5 0\n-4 6 0\n-4 -5 0\n1 -5 3 0\n-1 5 4 0\n2 -6 4 0\n-2 6 0\n-3 -4 0\n-8 5 0\n-7 9 0\n-8 10 0\n-8 -9 0\n5 -9 7 0\n-5 9 8 0\n6 -10 8 0\n-6 10 0\n-7 -8 0\n10 0\n")
    ∷ prints (request 0 1 swap) (codes "p cnf 2 4\n-1 0\n-2 0\n1 0\n2 0\n")
    ∷ prints (request 0 2 swap) (codes "p cnf 2 4\n-1 0\n-2 0\n1 0\n2 0\n")
    ∷ prints (request 1 1 swap) (codes "p cnf 6 11\n-1 0\n-2 0\n-3 5 0\n-4 6 0\n1 -5 3 0\n-1 5 0\n2 -6 4 0\n-2 6 0\n-3 -4 0\n5 0\n6 0\n")
    ∷ prints (request 1 2 swap) (codes "p cnf 6 10\n-1 0\n-2 0\n-3 5 0\n-4 6 0\n1 -5 3 0\n-1 5 0\n2 -6 4 0\n-2 6 0\n5 0\n6 0\n")
    ∷ prints (request 2 1 swap) (codes "p cnf 10 18\n-1 0\n-2 0\n-3 5 0\n-4 6 0\n1 -5 3 0\n-1 5 0\n2 -6 4 0\n-2 6 0\n-3 -4 0\n-7 9 0\n-8 10 0\n5 -9 7 0\n-5 9 0\n6 -10 8 0\n-6 10 0\n-7 -8 0\n9 0\n10 0\n")
    ∷ prints (request 2 2 swap) (codes "p cnf 10 16\n-1 0\n-2 0\n-3 5 0\n-4 6 0\n1 -5 3 0\n-1 5 0\n2 -6 4 0\n-2 6 0\n-7 9 0\n-8 10 0\n5 -9 7 0\n-5 9 0\n6 -10 8 0\n-6 10 0\n9 0\n10 0\n")
    ∷ []

abbrev pub refusals : List Printed
refusals =
    -- an input without T and a rule
    prints (1 ∷ 0 ∷ 2 ∷ []) (codes "refused 1\n")
    -- T above 32
    ∷ prints (request 33 2 relay) (codes "refused 7\n")
    -- no such rule
    ∷ prints (request 1 3 relay) (codes "refused 7\n")
    -- no problem
    ∷ prints (request 1 2 []) (codes "refused 1\n")
    -- a problem without facts
    ∷ prints (request 1 2 (0 ∷ 0 ∷ 0 ∷ 0 ∷ 0 ∷ 0 ∷ [])) (codes "refused 2\n")
    -- a byte too many
    ∷ prints (request 1 2 (relay ++ (0 ∷ []))) (codes "refused 3\n")
    -- code 11, which no pair may have
    ∷ prints (request 1 2 no_such_pair) (codes "refused 4\n")
    -- pairs that do not rise
    ∷ prints (request 1 2 falling_pairs) (codes "refused 5\n")
    -- step 2 sets and clears fact 1
    ∷ prints (request 1 2 set_and_cleared) (codes "refused 6\n")
    ∷ []

-- V, C and L of a problem's formula, and how many words it takes
pub record Sized : Type 0 where
  pub bytes : List ℕ
  pub rule : Rule
  pub horizon : ℕ
  pub counts : ℕ × ℕ × ℕ
  pub words : ℕ

abbrev pub sized : List ℕ → Rule → ℕ → ℕ × ℕ × ℕ → ℕ → Sized
sized bytes rule horizon counts words = record { bytes = bytes; rule = rule; horizon = horizon; counts = counts; words = words }

pub record Sizes (row : Sized) : Type 0 where
  pub granted : verdict row.bytes ≡ 0
  pub are : SizesAre (problem_of row.bytes) row.rule row.horizon row.counts
  pub costs : total word_cost (formula (problem_of row.bytes) row.rule row.horizon) ≡ row.words

abbrev pub sizes : List Sized
sizes =
    sized relay single 0 (2, 3, 3) 6
    ∷ sized relay parallel 0 (2, 3, 3) 6
    ∷ sized relay single 1 (6, 12, 24) 36
    ∷ sized relay parallel 1 (6, 12, 24) 36
    ∷ sized relay single 2 (10, 21, 45) 66
    ∷ sized relay parallel 2 (10, 21, 45) 66
    ∷ sized swap single 0 (2, 4, 4) 8
    ∷ sized swap parallel 0 (2, 4, 4) 8
    ∷ sized swap single 1 (6, 11, 20) 31
    ∷ sized swap parallel 1 (6, 10, 18) 28
    ∷ sized swap single 2 (10, 18, 36) 54
    ∷ sized swap parallel 2 (10, 16, 32) 48
    ∷ []

-- what encode answers for a sink of so many words that holds these clauses: 0 granted, else the number of the refusal
pub record Encoded : Type 0 where
  pub bytes : List ℕ
  pub rule : Rule
  pub horizon : ℕ
  pub held : List Clause
  pub words : ℕ
  pub answer : ℕ

abbrev pub encoded : List ℕ → Rule → ℕ → List Clause → ℕ → ℕ → Encoded
encoded bytes rule horizon held words answer = record { bytes = bytes; rule = rule; horizon = horizon; held = held; words = words; answer = answer }

pub record Encodes (row : Encoded) : Type 0 where
  pub granted : verdict row.bytes ≡ 0
  pub answers : first_refusal (encode_checks (problem_of row.bytes) row.rule row.horizon row.held 4096 (row.words - total word_cost row.held) word_cost) ≡ row.answer

abbrev pub encodings : List Encoded
encodings =
    encoded relay parallel 1 [] 36 0
    ∷ encoded relay parallel 1 [] 35 9
    ∷ encoded swap single 1 [] 31 0
    ∷ encoded swap single 1 [] 30 9
    ∷ encoded swap parallel 1 [] 30 0
    -- T above 32 comes before all
    ∷ encoded relay parallel 33 ((pos 1 ∷ []) ∷ []) 36 7
    -- the sink holds a clause
    ∷ encoded relay parallel 1 ((pos 1 ∷ []) ∷ []) 38 10
    -- 22 slots of 192 variables, and 64 more, are above 4,096
    ∷ encoded wide parallel 22 [] 36 11
    ∷ []

-- a sheet that holds, and its truth values
pub record Solved : Type 0 where
  pub bytes : List ℕ
  pub rule : Rule
  pub horizon : ℕ
  pub lines : List Line
  pub values : List Bool

abbrev pub line : ℕ → ℕ → Line
line t a = record { slot = t; step = a }

abbrev pub solved : List ℕ → Rule → ℕ → List Line → List Bool → Solved
solved bytes rule horizon lines values = record { bytes = bytes; rule = rule; horizon = horizon; lines = lines; values = values }

pub record Solves (row : Solved) : Type 0 where
  pub granted : verdict row.bytes ≡ 0
  pub is_sheet : Sheet (problem_of row.bytes) row.horizon row.lines
  pub holds : Holds (problem_of row.bytes) row.rule row.horizon row.lines
  pub is_model : Model (vars (problem_of row.bytes) row.horizon) (formula (problem_of row.bytes) row.rule row.horizon) row.values
  pub gives_values : model (problem_of row.bytes) row.horizon row.lines ≡ row.values
  pub gives_lines : sheet_of (problem_of row.bytes) row.horizon (value row.values) ≡ row.lines

abbrev pub sheets : List Solved
sheets =
    -- -1 -2 3 -4 5 -6 -7 8 -9 10
    solved relay parallel 2 (line 1 1 ∷ line 2 2 ∷ []) (false ∷ false ∷ true ∷ false ∷ true ∷ false ∷ false ∷ true ∷ false ∷ true ∷ [])
    -- -1 -2 3 4 5 6
    ∷ solved swap parallel 1 (line 1 1 ∷ line 1 2 ∷ []) (false ∷ false ∷ true ∷ true ∷ true ∷ true ∷ [])
    -- one step a slot: -1 -2 3 -4 5 -6 -7 8 9 10
    ∷ solved swap single 2 (line 1 1 ∷ line 2 2 ∷ []) (false ∷ false ∷ true ∷ false ∷ true ∷ false ∷ false ∷ true ∷ true ∷ true ∷ [])
    ∷ []

-- decode grants the truth values and gives the lines, and assign grants the lines
pub record GoesBothWays (row : Solved) : Type 0 where
  pub decode_grants : Answers (decode_tests (problem_of row.bytes) row.rule row.horizon (bytes_of row.values) (length row.lines)) 0
  pub decode_gives : sheet_of (problem_of row.bytes) row.horizon (value (told (bytes_of row.values))) ≡ row.lines
  pub assign_grants : Answers (assign_tests (problem_of row.bytes) row.rule row.horizon row.lines (length row.values)) 0

-- no other truth values are a model
abbrev pub OnlyModel : Solved → Type 0
OnlyModel row = (values : List Bool) → Model (vars (problem_of row.bytes) row.horizon) (formula (problem_of row.bytes) row.rule row.horizon) values → values ≡ row.values

-- problems with one sheet that holds
abbrev pub only_sheets : List Solved
only_sheets =
    solved relay parallel 2 (line 1 1 ∷ line 2 2 ∷ []) (false ∷ false ∷ true ∷ false ∷ true ∷ false ∷ false ∷ true ∷ false ∷ true ∷ [])
    ∷ solved swap parallel 1 (line 1 1 ∷ line 1 2 ∷ []) (false ∷ false ∷ true ∷ true ∷ true ∷ true ∷ [])
    ∷ []

-- what `sheet` prints for an input with an answer
abbrev pub Told : Printed → Type 0
Told row = SheetTold row.input row.text

abbrev pub replies : List Printed
replies =
    prints (request 2 2 relay ++ codes "s SATISFIABLE\nv -1 -2 3 -4 5 -6 -7 8 -9 10 0\n") (codes "1 1\n2 2\n")
    -- the values in two lines, the false ones left out, and a comment
    ∷ prints (request 1 2 swap ++ codes "c by hand\ns SATISFIABLE\nv 3 4 5\nv 6 0\n") (codes "1 1\n1 2\n")
    ∷ prints (request 1 1 swap ++ codes "s UNSATISFIABLE\n") (codes "none claimed\n")
    ∷ prints (request 1 1 swap ++ codes "s UNKNOWN\n") (codes "unknown\n")
    -- the goal without the step that sets it
    ∷ prints (request 1 2 relay ++ codes "s SATISFIABLE\nv 6 0\n") (codes "refused 15\n")
    -- no answer after the problem
    ∷ prints (request 1 2 relay) (codes "refused 13\n")
    ∷ prints (request 33 2 relay) (codes "refused 7\n")
    ∷ prints (request 1 2 no_such_pair) (codes "refused 4\n")
    ∷ []

-- the definitions give every row
pub record ExamplesHold : Type 0 where
  pub texts_printed : AllByRecursion Prints texts
  pub refusals_printed : AllByRecursion Prints refusals
  pub sizes_counted : AllByRecursion Sizes sizes
  pub formulas_encoded : AllByRecursion Encodes encodings
  pub sheets_solve : AllByRecursion Solves sheets

-- and every row on decode, assign and what `sheet` prints
pub record SheetExamplesHold : Type 0 where
  pub rows_go_both_ways : AllByRecursion GoesBothWays sheets
  pub models_are_only : AllByRecursion OnlyModel only_sheets
  pub replies_told : AllByRecursion Told replies
