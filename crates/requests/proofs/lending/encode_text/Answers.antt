use Rattle.std.proofs.Common.{map, length, take, drop, pos, ap, ◌∙◌, rules}
use Rattle.std.proofs.lemmas.Result.{err_from_is_err_and}
use Rattle.rules.specs.Clauses.{total}
use Rattle.rules.specs.Formula.{formula}
use Rattle.clauses.specs.Rows.{parse}
use Rattle.text.specs.Lines.{lines_text, text_cost}
use Rattle.text.specs.Scan.{numbers}
use Rattle.std.proofs.lemmas.List.{drop-map}
use Rattle.problem.specs.Listed.{problem_of}
use Rattle.requests.proofs.Loans.{same_checks, after_grant, after_refusal, from_numbers}
use Rattle.requests.proofs.lending.encode_text.Goals as goal

pub returns : goal.returns
returns g c =
    let p = problem_of c.args.problem.now.bytes.now in
    let rule = g.R.SlotRule.parts c.args.rule.now in
    let t = c.args.horizon in
    let made = c.text_sink-lines.ensures in
    let done = c.in_ok-encode.ensures in
    let sink = c.encode.new.sink in
    let checks = same_checks p rule t (parse (numbers (take c.text_sink-lines.result.used c.text_sink-lines.result.bytes.now))) 999999 (length c.text_sink-lines.result.bytes.now) (length c.args.bytes.now) text_cost made.holds_nothing made.capacity_given in
    let all = after_grant (lines_text (formula p rule t)) c.args.bytes.now sink.bytes.now c.used.result (total text_cost (formula p rule t)) c.used.ensures.within_capacity (c.used.ensures.lines_in_use ∙ ap lines_text (ap (λ n. parse (numbers (take n sink.bytes.now))) c.used.ensures.answers_used ∙ done.holds_the_formula)) (ap (λ n. drop n sink.bytes.now) c.used.ensures.answers_used ∙ from_numbers (drop sink.used sink.bytes.now) (drop (total text_cost (formula p rule t)) c.args.bytes.now) (done.leaves_the_rest ∙ drop-map pos (total text_cost (formula p rule t)) _ ∙ ap (λ bs. map pos (drop (total text_cost (formula p rule t)) bs)) made.all_free)) (done.keeps_the_loan.room ∙ made.capacity_given) in
    let loan = done.keeps_the_loan.same ∙ made.same_loan in
    let some = all.0 in
    let is = all.1 in
    record { refuses_in_order = done.refuses_in_order ∙ checks; whole_memory = (some, search rules) }

pub returns-in_err-encode : goal.returns-in_err-encode
returns-in_err-encode g c =
    let p = problem_of c.args.problem.now.bytes.now in
    let rule = g.R.SlotRule.parts c.args.rule.now in
    let t = c.args.horizon in
    let made = c.text_sink-lines.ensures in
    let done = c.in_err-encode.ensures in
    let sink = c.encode.new.sink in
    let e = err_from_is_err_and c.from_residual.result c.from_residual.ensures.1 in
    let checks = same_checks p rule t (parse (numbers (take c.text_sink-lines.result.used c.text_sink-lines.result.bytes.now))) 999999 (length c.text_sink-lines.result.bytes.now) (length c.args.bytes.now) text_cost made.holds_nothing made.capacity_given in
    let is = after_refusal c.args.bytes.now sink.bytes.now sink.used (from_numbers (drop sink.used sink.bytes.now) c.args.bytes.now (done.leaves_the_rest ∙ ap (map pos) made.all_free)) (done.keeps_the_loan.room ∙ made.capacity_given) in
    let loan = done.keeps_the_loan.same ∙ made.same_loan in
    record { refuses_in_order = rw (e.1, e.2) (done.refuses_in_order ∙ checks); whole_memory = rw e.1 (search rules) }
