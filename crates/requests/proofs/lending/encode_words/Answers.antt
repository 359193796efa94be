use Rattle.std.proofs.Common.{length, take, drop, ap, ◌∙◌, rules}
use Rattle.std.proofs.lemmas.Result.{err_from_is_err_and}
use Rattle.rules.specs.Clauses.{total}
use Rattle.rules.specs.Formula.{formula}
use Rattle.clauses.specs.Rows.{parse, flat, word_cost}
use Rattle.problem.specs.Listed.{problem_of}
use Rattle.requests.proofs.Loans.{same_checks, after_grant, after_refusal}
use Rattle.requests.proofs.lending.encode_words.Goals as goal

pub returns : goal.returns
returns g c =
    let p = problem_of c.args.problem.now.bytes.now in
    let rule = g.R.SlotRule.parts c.args.rule.now in
    let t = c.args.horizon in
    let made = c.word_sink-sink.ensures in
    let done = c.in_ok-encode.ensures in
    let sink = c.encode.new.sink in
    let checks = same_checks p rule t (parse (take c.word_sink-sink.result.used c.word_sink-sink.result.words.now)) 4096 (length c.word_sink-sink.result.words.now) (length c.args.words.now) word_cost made.holds_nothing made.capacity_given in
    let all = after_grant (flat (formula p rule t)) c.args.words.now sink.words.now c.used.result (total word_cost (formula p rule t)) c.used.ensures.within_capacity (c.used.ensures.flat_in_use ∙ ap flat (ap (λ n. parse (take n sink.words.now)) c.used.ensures.answers_used ∙ done.holds_the_formula)) (ap (λ n. drop n sink.words.now) c.used.ensures.answers_used ∙ done.leaves_the_rest ∙ ap (drop (total word_cost (formula p rule t))) made.all_free) (done.keeps_the_loan.room ∙ made.capacity_given) in
    let loan = done.keeps_the_loan.same ∙ made.same_loan in
    let some = all.0 in
    let is = all.1 in
    record { refuses_in_order = done.refuses_in_order ∙ checks; whole_memory = (some, search rules) }

pub returns-in_err-encode : goal.returns-in_err-encode
returns-in_err-encode g c =
    let p = problem_of c.args.problem.now.bytes.now in
    let rule = g.R.SlotRule.parts c.args.rule.now in
    let t = c.args.horizon in
    let made = c.word_sink-sink.ensures in
    let done = c.in_err-encode.ensures in
    let sink = c.encode.new.sink in
    let e = err_from_is_err_and c.from_residual.result c.from_residual.ensures.1 in
    let checks = same_checks p rule t (parse (take c.word_sink-sink.result.used c.word_sink-sink.result.words.now)) 4096 (length c.word_sink-sink.result.words.now) (length c.args.words.now) word_cost made.holds_nothing made.capacity_given in
    let is = after_refusal c.args.words.now sink.words.now sink.used (done.leaves_the_rest ∙ made.all_free) (done.keeps_the_loan.room ∙ made.capacity_given) in
    let loan = done.keeps_the_loan.same ∙ made.same_loan in
    record { refuses_in_order = rw (e.1, e.2) (done.refuses_in_order ∙ checks); whole_memory = rw e.1 (search rules) }
