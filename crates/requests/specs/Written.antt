-- What `write` prints for every input: T, the rule and a problem, each in 16-bit numbers.
use Rattle.std.specs.Prelude.{ℕ, Bool, cond, not, ◌&&◌, ◌||◌, List, ◌++◌, length, drop, ◌==◌, nat_le, nat_lt}
use Rattle.rules.specs.Steps.{Rule, single, parallel}
use Rattle.rules.specs.Problems.{Problem}
use Rattle.rules.specs.Formula.{vars, formula}
use Rattle.problem.specs.Bytes.{word}
use Rattle.problem.specs.Listed.{problem_of}
use Rattle.problem.specs.Verdict.{verdict}
use Rattle.text.specs.Lines.{lines_text}
use Rattle.requests.specs.Printed.{head_line, refused_line}

-- T
abbrev pub horizon : List ℕ → ℕ
horizon s = word s 0

-- the rule's number: 1 single, 2 parallel
abbrev pub rule_number : List ℕ → ℕ
rule_number s = word s 2

abbrev pub rule_of : ℕ → Rule
rule_of n = cond (n == 1) single parallel

-- the problem's bytes: all that follows
abbrev pub rest : List ℕ → List ℕ
rest s = drop 4 s

-- T is at most 32 and there is such a rule
abbrev pub asked : List ℕ → Bool
asked s = nat_le (horizon s) 32 && (rule_number s == 1 || rule_number s == 2)

-- the text of a problem's formula: the head line and the clause lines, refused by 9 where those exceed 65,536 bytes
abbrev pub problem_text : Problem → Rule → ℕ → List ℕ
problem_text p rule t = cond (nat_lt 65536 (length (lines_text (formula p rule t)))) (refused_line 9) (head_line (vars p t) (length (formula p rule t)) ++ lines_text (formula p rule t))

-- 0 where the problem's text is printed, and else the number of the first refusal before it: the input's length, T and the rule, the problem
abbrev pub request_verdict : List ℕ → ℕ
request_verdict s = cond (nat_lt (length s) 4) 1 (cond (nat_lt 65536 (length s)) 3 (cond (not (asked s)) 7 0))

abbrev pub write_verdict : List ℕ → ℕ
write_verdict s = cond (request_verdict s == 0) (verdict (rest s)) (request_verdict s)

-- the text, or the refusal alone
abbrev pub written : List ℕ → List ℕ
written s = cond (write_verdict s == 0) (problem_text (problem_of (rest s)) (rule_of (rule_number s)) (horizon s)) (refused_line (write_verdict s))
