use Rattle.std.proofs.lemmas.Result.{err_from_is_err_and}
use Rattle.problem.specs.Tables.{means}
use Rattle.rules.specs.Formula.{start_cell}
use Rattle.formula.specs.Visits.{Shown}
use Rattle.formula.proofs.Visiting.{along_more, along_stop}
use Rattle.formula.proofs.whole.Formula.each_start.Goals as goal

pub loop-f-preserved : goal.loop-f-preserved
loop-f-preserved g c = along_more (Shown g.F.Fn c.args.visit.now) (start_cell (means c.args.self.now.table)) _ _ _ _ _ _ c.loop-f.invariant c.loop-f-test.true c.in_ok-start_clause.ensures.visits_start

pub returns-in_err-start_clause : goal.returns-in_err-start_clause
returns-in_err-start_clause g c =
    let p = err_from_is_err_and c.from_residual.result c.from_residual.ensures.1 in
    record { visits_starts = rw (p.1, p.2) (along_stop (Shown g.F.Fn c.args.visit.now) (start_cell (means c.args.self.now.table)) _ _ _ _ _ _ _ c.loop-f.invariant c.loop-f-test.true c.in_err-start_clause.ensures.visits_start) }
