use Rattle.std.proofs.Common.{arith, rules}
use Rattle.feeding.proofs.Reading.{on_option}
use Rattle.feeding.proofs.FirstCases.{case_is, no_case}
use Rattle.feeding.proofs.cases.next_case.Goals as goal

pub returns : goal.returns
returns c =
    let parts = c.in_ok-length.ensures.cases in
    record {
      takes_record = on_option c.split_at_checked.result
          (λ short. no_case c.args.bytes.now c.in_ok-length.length.now c.in_ok-length.rest.now _ parts.0 parts.1 (omega (arith, c.from_le_bytes.ensures)) short)
          (λ p s. case_is c.args.bytes.now c.in_ok-length.length.now c.in_ok-length.rest.now _ parts.0 parts.1 (omega (arith, c.from_le_bytes.ensures)) p.0.now p.1.now (omega (arith, parts.2)) (search rules) s)
          c.split_at_checked.ensures.cases;
    }
