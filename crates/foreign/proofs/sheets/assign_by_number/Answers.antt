use Rattle.std.proofs.Common.{◌≡◌, ℕ, List, cond, length, Ok, Err, Result, is_ok, sym, ap, subst}
use Rattle.std.proofs.lemmas.Result.{err_from_is_err_and}
use Rattle.rules.specs.declared.line.Line.{Line}
use Rattle.rules.specs.declared.refusal.Refusal.{Refusal}
use Rattle.rules.specs.Checks.{Answers}
use Rattle.rules.specs.Refusals.{number, answer}
use Rattle.rules.specs.Problems.{Problem}
use Rattle.rules.specs.Sheets.{model}
use Rattle.checking.specs.Told.{bytes_of}
use Rattle.assigning.specs.Assign.{assign_tests}
use Rattle.foreign.specs.Told.{by_number, truth_after}
use Rattle.problem.specs.Listed.{problem_of}
use Rattle.requests.specs.Written.{rule_of}
use Rattle.foreign.proofs.Calls.{named_moved, named_answers, no_rule_answers}
use Rattle.foreign.proofs.sheets.assign_by_number.Goals as goal

by_case : (p : Problem) (t : ℕ) (lines : List Line) (before after : List ℕ) (r : Result Unit Refusal) → after ≡ cond (is_ok r) (bytes_of (model p t lines)) before → truth_after p t lines before r after
by_case p t lines before after (Ok u) h = h
by_case p t lines before after (Err e) h = h

pub returns : goal.returns
returns c =
    let s = c.args.problem.now in
    let read = c.in_ok-read_problem.ensures in
    let bytes = c.read_problem.new.problem.bytes.now in
    let rule = c.in_ok-rule.rule in
    let done = c.assign.ensures in
    let is = named_moved s bytes rule c.args.rule read.filled_or_kept c.in_ok-rule.ensures (λ p x. Answers (assign_tests p x c.args.horizon c.args.lines.now (length c.args.truth.now)) (answer c.assign.result)) done.refuses_in_order in
    record {
      refuses_in_order = named_answers s rule c.args.rule (assign_tests (problem_of s) (rule_of c.args.rule) c.args.horizon c.args.lines.now (length c.args.truth.now)) _ read.first_broken_rule c.in_ok-rule.ensures is;
      whole_memory = named_moved s bytes rule c.args.rule read.filled_or_kept c.in_ok-rule.ensures (λ p x. truth_after p c.args.horizon c.args.lines.now c.args.truth.now c.assign.result c.assign.new.truth) (by_case (problem_of bytes) c.args.horizon c.args.lines.now c.args.truth.now c.assign.new.truth c.assign.result done.writes_the_model);
    }

pub returns-in_err-rule-clause-refuses_in_order : goal.returns-in_err-rule-clause-refuses_in_order
returns-in_err-rule-clause-refuses_in_order c =
    let s = c.args.problem.now in
    let e = err_from_is_err_and c.from_residual-in_err-rule.result c.from_residual-in_err-rule.ensures.1 in
    let why = c.in_err-rule.ensures in
    let tests = assign_tests (problem_of s) (rule_of c.args.rule) c.args.horizon c.args.lines.now (length c.args.truth.now) in
    rw (e.1, e.2) (subst (λ n. Answers (by_number s c.args.rule tests) n) (sym (ap number why.0)) (no_rule_answers s c.args.rule tests c.in_ok-read_problem.ensures.first_broken_rule why.1))
