use Rattle.std.proofs.Common.{◌≡◌, ℕ, ◌≤◌, List, IfOk as made, vec_items, sym, ap, ◌∙◌, subst, arith, rules}
use Rattle.steps.specs.Named.{rule_named}
use Rattle.problem.proofs.Refused.{refused}
use Rattle.requests.proofs.Asking.{few_slots, bad_problem, good_problem, named_of}
use Rattle.requests.proofs.writing.write_request.Goals as goal

pub returns-in-Err-read_problem : goal.returns-in-Err-read_problem
returns-in-Err-read_problem c =
    let asked = c.in-Ok.ensures.checks_in_order in
    let is = bad_problem c.args.input.now _ asked.0 c.in-Err-read_problem.ensures.first_broken_rule (refused c.in-Err-read_problem.refusal) in
    record { prints_written = subst (λ (xs : List ℕ). made c.refused_text-in-Err-read_problem.result (λ out. vec_items out ≡ xs)) is c.refused_text-in-Err-read_problem.ensures.prints_refusal }

pub write_problem-requires : goal.write_problem-requires
write_problem-requires c =
    let asked = c.in-Ok.ensures.checks_in_order in
    let few : c.in-Ok.request.horizon ≤ 32 = omega (arith, few_slots c.args.input.now asked.0, asked.1) in
    let made = c.in_ok-memory.ensures in
    record { few_slots = few; space = search rules }

pub returns : goal.returns
returns c =
    let asked = c.in-Ok.ensures.checks_in_order in
    let read = c.in_default.ensures in
    let q = c.in-Ok.request in
    let is = good_problem c.args.input.now (rule_named q.rule) q.horizon c.read_problem.new.problem.bytes.now asked.0 read.filled_or_kept read.first_broken_rule (named_of q.rule _ asked.2) asked.1 in
    record { prints_written = subst (λ (xs : List ℕ). made c.write_problem.result (λ out. vec_items out ≡ xs)) is c.write_problem.ensures.prints_problem }
