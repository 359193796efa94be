use Rattle.std.proofs.Common.{arith}
use Rattle.text.proofs.Rendering.{spent}
use Rattle.text.proofs.lines.taking.TextSinkSink.space_left.Goals as goal

pub returns : goal.returns
returns c =
    let s = c.args.self.now in
    let e = spent s.bytes.now s.used s.within s.rendered s.granted in
    record { answers_space = omega arith; holds_no_more = omega arith }
