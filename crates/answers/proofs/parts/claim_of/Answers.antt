use Rattle.std.proofs.Common.{◌≡◌, length, get_or, ap, rules, arith}
use Rattle.answers.specs.declared.status.Status.TheVariants.{Satisfiable, Unsatisfiable, Unknown}
use Rattle.answers.proofs.Turns.{claims, claims_none}
use Rattle.answers.proofs.parts.claim_of.Goals as goal

pub returns-in-115 : goal.returns-in-115
returns-in-115 c = record { reads_claim = claims c.args.line.now Satisfiable (omega arith) (search rules) }

pub returns-in-115-2 : goal.returns-in-115-2
returns-in-115-2 c = record { reads_claim = claims c.args.line.now Unsatisfiable (omega arith) (search rules) }

pub returns-in-115-3 : goal.returns-in-115-3
returns-in-115-3 c = record { reads_claim = claims c.args.line.now Unknown (omega arith) (search rules) }

pub returns-in_default-14 : goal.returns-in_default-14
returns-in_default-14 c = record {
  reads_claim = claims_none c.args.line.now
      (λ e. let b : get_or c.args.line.now 10 0 ≡ 66 = ap (λ x. get_or x 10 0) e in omega arith)
      (λ e. omega (arith, ap length e))
      (λ e. omega (arith, ap length e));
}

pub returns-in_default-28 : goal.returns-in_default-28
returns-in_default-28 c = record {
  reads_claim = claims_none c.args.line.now
      (λ e. omega (arith, ap length e))
      (λ e. let b : get_or c.args.line.now 12 0 ≡ 66 = ap (λ x. get_or x 12 0) e in omega arith)
      (λ e. omega (arith, ap length e));
}
