use Rattle.std.proofs.Common.{◌+◌, ◌*◌, ◌<◌, ◌∙◌, mul-le-mul_right, arith}
use mir.Val.{bool_byte}
use Rattle.std.proofs.lemmas.List.{length-set}
use Rattle.rules.specs.Formula.{width}
use Rattle.rules.specs.Sheets.{valued}
use Rattle.problem.specs.Tables.{means}
use Rattle.assigning.proofs.Valuing.{computed_valued, built_more, most}
use Rattle.assigning.proofs.gathering.SlotTable.build.Goals as goal

pub value_at-requires : goal.value_at-requires
value_at-requires c =
    let t = c.args.self.now.sheet.table.now in
    let q = mul-le-mul_right (t.facts + t.steps) c.args.self.now.sheet.few in
    let b = most c.args.self.now.sheet.horizon t.facts t.steps c.args.self.now.sheet.few t.few.0 t.few.1 in
    record { within = omega (arith, q, c.loop-i-test.true); long = omega (arith, b, c.loop-i-test.true, c.loop-i.invariant.0) }

pub bounds-bytes-i : goal.bounds-bytes-i
bounds-bytes-i c =
    let t = c.args.self.now.sheet.table.now in
    let b = most c.args.self.now.sheet.horizon t.facts t.steps c.args.self.now.sheet.few t.few.0 t.few.1 in
    omega (arith, b, c.loop-i-test.true)

pub loop-i-preserved : goal.loop-i-preserved
loop-i-preserved c =
    let t = c.args.self.now.sheet.table.now in
    let p = means t in
    let ls = c.args.self.now.sheet.lines.now in
    let i = c.loop-i.i in
    let q = mul-le-mul_right (t.facts + t.steps) c.args.self.now.sheet.few in
    let b = most c.args.self.now.sheet.horizon t.facts t.steps c.args.self.now.sheet.few t.few.0 t.few.1 in
    let h : i < 32 * width p + t.facts = omega (arith, q, c.loop-i-test.true) in
    let pos : 0 < width p = omega arith in
    let v = c.value_at.ensures.computes ∙ computed_valued p ls c.args.self.now.marks c.args.self.now.changes c.loop-i.bytes i pos t.few.1 h c.args.self.now.marked c.args.self.now.joined c.loop-i.invariant.1 in
    (length-set c.loop-i.bytes i (bool_byte c.value_at.result) ∙ c.loop-i.invariant.0, built_more (valued p ls) c.loop-i.bytes i c.value_at.result (omega (arith, b, c.loop-i-test.true, c.loop-i.invariant.0)) v c.loop-i.invariant.1)
