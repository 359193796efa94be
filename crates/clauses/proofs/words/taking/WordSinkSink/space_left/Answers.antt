use Rattle.std.proofs.Common.{arith}
use Rattle.clauses.proofs.Rows.{spent}
use Rattle.clauses.proofs.words.taking.WordSinkSink.space_left.Goals as goal

pub returns : goal.returns
returns c =
    let s = c.args.self.now in
    let e = spent s.words.now s.used s.within s.closed s.granted in
    record { answers_space = omega arith; holds_no_more = omega arith }
