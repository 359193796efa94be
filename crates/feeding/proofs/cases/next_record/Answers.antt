use Rattle.std.proofs.Common.{rules, arith}
use Rattle.feeding.proofs.Reading.{on_option}
use Rattle.feeding.proofs.Records.{record_is, no_record}
use Rattle.feeding.proofs.cases.next_record.Goals as goal

pub returns : goal.returns
returns c =
    let parts = c.in_ok-size.ensures.cases in
    record {
      takes_record = on_option c.split_at_checked.result
          (no_record c.args.bytes.now c.in_ok-size.size.now c.in_ok-size.rest.now c.from_le_bytes.result parts.0 parts.1 c.from_le_bytes.ensures)
          (λ p. record_is c.args.bytes.now c.in_ok-size.size.now c.in_ok-size.rest.now c.from_le_bytes.result parts.0 parts.1 c.from_le_bytes.ensures p.0.now p.1.now (omega (arith, parts.2)) (search rules) c.from_le_bytes.type_inv)
          c.split_at_checked.ensures.cases;
    }
