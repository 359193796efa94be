use Rattle.std.proofs.Common.{◌+◌, ◌-◌, length, ap, ◌∙◌, arith}
use Rattle.std.proofs.lemmas.List.{length-append}
use Rattle.rules.specs.Clauses.{value}
use Rattle.rules.specs.Sheets.{sheet_of}
use Rattle.problem.specs.Tables.{means}
use Rattle.checking.specs.Told.{told}
use Rattle.decoding.specs.Added.{slot_lines, slots_from}
use Rattle.decoding.proofs.Adding.{way_more}
use Rattle.decoding.proofs.Lines.{slot_more}
use Rattle.decoding.proofs.valuation.Valuation.write_slots.Goals as goal

pub write_slot-requires : goal.write_slot-requires
write_slot-requires c =
    let p = means c.args.self.now.table.now in
    let w = value (told c.args.self.now.truth.now) in
    let u = c.loop-u.u in
    let end = c.args.self.now.horizon in
    let e = ap length (slot_more p w u end c.loop-u-test.true) ∙ length-append (slot_lines p w u) (slots_from p w (u + 1) (end - (u + 1))) in
    record { few_slots = omega (arith, c.loop-u-test.true, c.args.self.now.few); space = omega (arith, e, c.loop-u.invariant.0) }

pub loop-u-preserved : goal.loop-u-preserved
loop-u-preserved c =
    let p = means c.args.self.now.table.now in
    let w = value (told c.args.self.now.truth.now) in
    let u = c.loop-u.u in
    let end = c.args.self.now.horizon in
    way_more c.args.sheet.now c.loop-u.sheet c.write_slot.new.sheet (sheet_of p end w) (slots_from p w u (end - u)) (slot_lines p w u) (slots_from p w (u + 1) (end - (u + 1))) (slot_more p w u end c.loop-u-test.true) c.loop-u.invariant c.write_slot.ensures.writes_slot
