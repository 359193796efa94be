use Rattle.std.proofs.Common.{◌≡◌, ℕ, List, length, take, IfOk, vec_items, ap, ◌∙◌, subst}
use Rattle.clauses.specs.Rows.{parse}
use Rattle.text.specs.Lines.{lines_text}
use Rattle.text.specs.Scan.{numbers}
use Rattle.steps.specs.Named.{rule_named}
use Rattle.problem.specs.Listed.{problem_of}
use Rattle.problem.proofs.Lawful.{lawful_head}
use Rattle.requests.proofs.Texts.{text_refusal, text_refused, text_granted}
use Rattle.requests.proofs.writing.write_problem.Goals as goal

pub returns-in-Err : goal.returns-in-Err
returns-in-Err c =
    let s = c.args.problem.now.bytes.now in
    let head = lawful_head s c.args.problem.now.lawful in
    let rule = rule_named c.args.request.rule in
    let t = c.args.request.horizon in
    let p = problem_of s in
    let first = text_refusal p head.1 head.2 rule t c.requires.few_slots (parse (numbers (take c.text_sink-sink.result.used c.text_sink-sink.result.bytes.now))) (length c.text_sink-sink.result.bytes.now) c.text_sink-sink.ensures.holds_nothing (c.text_sink-sink.ensures.capacity_given ∙ c.requires.space) in
    let is = text_refused p head.1 head.2 rule t c.requires.few_slots c.in-Err.refusal (c.in-Err.ensures.refuses_in_order ∙ first) in
    record { prints_problem = subst (λ (xs : List ℕ). IfOk c.refused_text.result (λ out. vec_items out ≡ xs)) is c.refused_text.ensures.prints_refusal }

pub returns-in-Ok : goal.returns-in-Ok
returns-in-Ok c =
    let s = c.args.problem.now.bytes.now in
    let head = lawful_head s c.args.problem.now.lawful in
    let rule = rule_named c.args.request.rule in
    let t = c.args.request.horizon in
    let p = problem_of s in
    let first = text_refusal p head.1 head.2 rule t c.requires.few_slots (parse (numbers (take c.text_sink-sink.result.used c.text_sink-sink.result.bytes.now))) (length c.text_sink-sink.result.bytes.now) c.text_sink-sink.ensures.holds_nothing (c.text_sink-sink.ensures.capacity_given ∙ c.requires.space) in
    let sized = c.in-Ok.ensures.answers_sizes.1 in
    let lines = c.text.ensures.lends_lines ∙ ap lines_text c.in_default.ensures.holds_the_formula in
    let is = text_granted p head.1 head.2 rule t c.requires.few_slots c.in-Ok.variables c.in-Ok.clauses c.text.result.now (c.in_default.ensures.refuses_in_order ∙ first) sized.variables sized.clauses lines in
    record { prints_problem = subst (λ (xs : List ℕ). IfOk c.clause_text.result (λ out. vec_items out ≡ xs)) is c.clause_text.ensures.prints_head_and_lines }
