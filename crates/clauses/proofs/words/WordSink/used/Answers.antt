use Rattle.std.proofs.Common.{true, take, sym}
use Rattle.clauses.proofs.Rows.{flat_parse}
use Rattle.clauses.proofs.words.WordSink.used.Goals as goal

pub returns-clause-flat_in_use : goal.returns-clause-flat_in_use
returns-clause-flat_in_use c = let s = c.args.self.now in sym (flat_parse true (take s.used s.words.now) s.closed)
