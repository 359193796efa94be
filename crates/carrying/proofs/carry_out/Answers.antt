use Rattle.std.proofs.Common.{rules}
use Rattle.carrying.specs.Carried.{Carried}
use Rattle.carrying.proofs.Moves.{carries_step}
use Rattle.carrying.proofs.carry_out.Goals as goal

pub returns : goal.returns
returns c =
    let carried : Carried c.args.step.now c.args.state c.then.result = search rules in
    record { carries_out = carried; carries_out_steps = carries_step _ _ _ carried }
