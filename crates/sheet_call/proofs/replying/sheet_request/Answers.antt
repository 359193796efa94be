use Rattle.std.proofs.Common.{◌-◌, length, take, drop, arith}
use Rattle.std.proofs.lemmas.List.{take_rest}
use Rattle.steps.specs.Named.{rule_named}
use Rattle.problem.proofs.Refused.{refused}
use Rattle.requests.proofs.Asking.{few_slots, named_of}
use Rattle.sheet_call.proofs.ModelTold.{made_so}
use Rattle.sheet_call.proofs.Inputs.{bad_problem, good_problem}
use Rattle.sheet_call.proofs.replying.sheet_request.Goals as goal

pub returns-in-Err-read_problem : goal.returns-in-Err-read_problem
returns-in-Err-read_problem c =
    let s = c.args.input.now in
    let asked = c.in-Ok.ensures.checks_in_order in
    let told = bad_problem s (take (length s - 4) (drop 4 s)) (take_rest s 4) c.problem_end-end.result c.problem_end-end.ensures.ends_problem asked.0 in
    record { prints_told = made_so c.refused_text-in-Err-read_problem.result _ _ (λ out e. told _ _ c.in-Err-read_problem.ensures.first_broken_rule (refused c.in-Err-read_problem.refusal) e) c.refused_text-in-Err-read_problem.ensures.prints_refusal }

pub print_reply-requires : goal.print_reply-requires
print_reply-requires c =
    let asked = c.in-Ok.ensures.checks_in_order in
    record { few_slots = omega (arith, few_slots c.args.input.now asked.0, asked.1) }

pub returns : goal.returns
returns c =
    let s = c.args.input.now in
    let more = take (length s - 4) (drop 4 s) in
    let end = c.problem_end-end.result in
    let asked = c.in-Ok.ensures.checks_in_order in
    let q = c.in-Ok.request in
    let read = c.in_default.ensures in
    let told = good_problem s more (take_rest s 4) end c.problem_end-end.ensures.ends_problem asked.0 (rule_named q.rule) q.horizon c.read_problem.new.problem.bytes.now (take (length more - end) (drop end more)) in
    record { prints_told = made_so c.print_reply.result _ _ (λ out e. told _ read.filled_or_kept read.first_broken_rule (take_rest more end) (named_of q.rule _ asked.2) asked.1 e) c.print_reply.ensures.prints_reply }
