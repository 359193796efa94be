use Rattle.std.proofs.Common.{min, length, sym, ap, subst}
use Rattle.std.proofs.lemmas.Result.{err_from_is_err_and}
use Rattle.rules.specs.Checks.{Answers}
use Rattle.rules.specs.Refusals.{number, answer}
use Rattle.problem.specs.Listed.{problem_of}
use Rattle.decoding.specs.Decode.{decode_tests}
use Rattle.lending.specs.Lent.{lines_after}
use Rattle.requests.specs.Written.{rule_of}
use Rattle.foreign.specs.Told.{by_number}
use Rattle.foreign.proofs.Calls.{named_moved, named_answers, no_rule_answers}
use Rattle.foreign.proofs.sheets.decode_by_number.Goals as goal

pub returns : goal.returns
returns c =
    let s = c.args.problem.now in
    let read = c.in_ok-read_problem.ensures in
    let bytes = c.read_problem.new.problem.bytes.now in
    let rule = c.in_ok-rule.rule in
    let done = c.decode_lines.ensures in
    let space = min (length c.args.lines.now) 1048576 in
    let is = named_moved s bytes rule c.args.rule read.filled_or_kept c.in_ok-rule.ensures (λ p x. Answers (decode_tests p x c.args.horizon c.args.truth.now space) (answer c.decode_lines.result)) done.refuses_in_order in
    record {
      refuses_in_order = named_answers s rule c.args.rule (decode_tests (problem_of s) (rule_of c.args.rule) c.args.horizon c.args.truth.now space) _ read.first_broken_rule c.in_ok-rule.ensures is;
      whole_memory = named_moved s bytes rule c.args.rule read.filled_or_kept c.in_ok-rule.ensures (λ p x. lines_after p c.args.horizon c.args.truth.now c.args.lines.now c.decode_lines.result c.decode_lines.new.lines) done.whole_memory;
    }

pub returns-in_err-rule-clause-refuses_in_order : goal.returns-in_err-rule-clause-refuses_in_order
returns-in_err-rule-clause-refuses_in_order c =
    let s = c.args.problem.now in
    let e = err_from_is_err_and c.from_residual-in_err-rule.result c.from_residual-in_err-rule.ensures.1 in
    let why = c.in_err-rule.ensures in
    let tests = decode_tests (problem_of s) (rule_of c.args.rule) c.args.horizon c.args.truth.now (min (length c.args.lines.now) 1048576) in
    rw (e.1, e.2) (subst (λ n. Answers (by_number s c.args.rule tests) n) (sym (ap number why.0)) (no_rule_answers s c.args.rule tests c.in_ok-read_problem.ensures.first_broken_rule why.1))
