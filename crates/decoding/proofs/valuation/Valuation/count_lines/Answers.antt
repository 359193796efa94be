use Rattle.std.proofs.Common.{◌+◌, ◌-◌, length, ap, ◌∙◌, arith}
use Rattle.std.proofs.lemmas.List.{length-append}
use Rattle.rules.specs.Clauses.{value}
use Rattle.problem.specs.Tables.{means}
use Rattle.checking.specs.Told.{told}
use Rattle.decoding.specs.Added.{slot_lines, slots_from}
use Rattle.decoding.proofs.Lines.{slot_more}
use Rattle.decoding.proofs.valuation.Valuation.count_lines.Goals as goal

pub loop-u-preserved : goal.loop-u-preserved
loop-u-preserved c =
    let p = means c.args.self.now.table.now in
    let w = value (told c.args.self.now.truth.now) in
    let u = c.loop-u.u in
    let end = c.args.self.now.horizon in
    let e = ap length (slot_more p w u end c.loop-u-test.true) ∙ length-append (slot_lines p w u) (slots_from p w (u + 1) (end - (u + 1))) in
    (omega (arith, e, c.loop-u.invariant.0, c.count_slot-n.ensures.counts_slot), omega (arith, c.loop-u.invariant.1, c.count_slot-n.ensures.few))
