use Rattle.std.proofs.Common.{length, ap, ◌∙◌}
use Rattle.std.proofs.lemmas.Result.{err_from_is_err_and}
use Rattle.rules.specs.Refusals.{number}
use Rattle.clauses.specs.Rows.{word_cost}
use Rattle.requests.specs.Lent.{words_after}
use Rattle.foreign.proofs.Calls.{named_called, named_moved, no_rule_called}
use Rattle.foreign.proofs.words_by_number.Goals as goal

pub returns : goal.returns
returns c =
    let s = c.args.problem.now in
    let read = c.in_ok-read_problem.ensures in
    let bytes = c.read_problem.new.problem.bytes.now in
    let rule = c.in_ok-rule.rule in
    let done = c.encode_words.ensures in
    record {
      refuses_in_order = named_called s bytes rule c.args.rule read.filled_or_kept c.in_ok-rule.ensures c.args.horizon 4096 (length c.args.words.now) word_cost _ read.first_broken_rule done.refuses_in_order;
      whole_memory = named_moved s bytes rule c.args.rule read.filled_or_kept c.in_ok-rule.ensures (λ p x. words_after p x c.args.horizon c.args.words.now c.encode_words.result c.encode_words.new.words) done.whole_memory;
    }

pub returns-in_err-rule-clause-refuses_in_order : goal.returns-in_err-rule-clause-refuses_in_order
returns-in_err-rule-clause-refuses_in_order c =
    let e = err_from_is_err_and c.from_residual-in_err-rule.result c.from_residual-in_err-rule.ensures.1 in
    let why = c.in_err-rule.ensures in
    rw (e.1, e.2) (ap number why.0 ∙ no_rule_called c.args.problem.now c.args.rule c.args.horizon 4096 (length c.args.words.now) word_cost c.in_ok-read_problem.ensures.first_broken_rule why.1)
