use Rattle.std.proofs.Common.{◌+◌, ◌<◌, length, sym, ap, arith}
use Rattle.rules.specs.Clauses.{value}
use Rattle.problem.specs.Tables.{means}
use Rattle.checking.specs.Told.{told}
use Rattle.decoding.proofs.Lines.{step_in, step_out}
use Rattle.decoding.proofs.valuation.Valuation.count_slot.Goals as goal
use Rattle.decoding.proofs.valuation.Valuation.count_slot.Goals.{then-has_step, else-has_step}

pub loop-a-preserved : goal.loop-a-preserved
loop-a-preserved c =
    let w = value (told c.args.self.now.truth.now) in
    let a = c.loop-a.a in
    let end = c.args.self.now.table.now.steps + 1 in
    let l : a < end = omega arith in
    elim c.if-has_step.branch [
      | then-has_step k ↦ let e = ap length (step_in (means c.args.self.now.table.now) w c.args.u a end l (sym k.if-has_step.ensures.answers_step)) in (omega (arith, e, k.n-is, c.loop-a.invariant.0), omega (arith, k.n-is, c.loop-a.invariant.1))
      | else-has_step k ↦ let e = ap length (step_out (means c.args.self.now.table.now) w c.args.u a end l (sym k.if-has_step.ensures.answers_step)) in (omega (arith, e, k.n-is, c.loop-a.invariant.0), omega (arith, k.n-is, c.loop-a.invariant.1))
    ]
