use Rattle.std.proofs.Common.{◌≡◌, ℕ, ap, ◌∙◌, sym, arith, rules}
use Rattle.std.proofs.lemmas.Result.{err_from_is_err_and}
use Rattle.rules.specs.Refusals.{number}
use Rattle.requests.specs.Written.{rule_number, request_verdict}
use Rattle.requests.proofs.Asking.{no_rule}
use Rattle.requests.proofs.writing.read_request.Goals as goal

pub returns-in_err-try_from : goal.returns-in_err-try_from
returns-in_err-try_from c =
    let e = err_from_is_err_and c.from_residual.result c.from_residual.ensures.1 in
    let why = c.in_err-try_from.ensures in
    let is : c.from_le_bytes-rule.result ≡ rule_number c.args.input.now = search rules in
    let seven : request_verdict c.args.input.now ≡ 7 = no_rule c.args.input.now (omega arith) (omega arith) (λ rule k. why.1 rule (k ∙ sym is)) in
    rw (e.1, e.2) (record { checks_in_order = (ap number why.0 ∙ sym seven, λ z. let w : ◌≡◌ {A = ℕ} 7 0 = sym seven ∙ z in omega arith) })
