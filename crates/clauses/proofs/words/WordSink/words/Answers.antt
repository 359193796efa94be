use Rattle.std.proofs.Common.{true, take, sym, ap, ◌∙◌, arith}
use Rattle.clauses.proofs.Rows.{flat_parse}
use Rattle.clauses.proofs.words.WordSink.words.Goals as goal

pub returns : goal.returns
returns c =
    let s = c.args.self.now in
    let ws = s.words.now in
    record { lends_flat = ap (λ n. take n ws) (omega arith) ∙ sym (flat_parse true (take s.used ws) s.closed) }
