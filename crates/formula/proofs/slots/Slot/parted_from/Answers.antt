use Rattle.std.proofs.lemmas.Result.{err_from_is_err_and}
use Rattle.problem.specs.Tables.{means}
use Rattle.rules.specs.Formula.{parted_cell}
use Rattle.formula.specs.Visits.{Shown}
use Rattle.formula.proofs.Visiting.{visits_as, along_more, along_stop}
use Rattle.formula.proofs.Frames.{parted_is}
use Rattle.formula.proofs.slots.Slot.parted_from.Goals as goal

pub loop-b-preserved : goal.loop-b-preserved
loop-b-preserved g c = along_more (Shown g.F.Fn c.args.visit.now) (parted_cell (means c.args.self.now.table.now) (g.R.SlotRule.parts c.args.rule.now) c.args.self.now.before c.args.a) _ _ _ _ _ _ c.loop-b.invariant c.loop-b-test.true (visits_as (Shown g.F.Fn c.args.visit.now) _ _ _ _ _ (parted_is (means c.args.self.now.table.now) (g.R.SlotRule.parts c.args.rule.now) c.args.self.now.before _ _ _ _ c.step-first.ensures.answers_step c.step.ensures.answers_step) c.in_ok-parted_clause.ensures.visits_parted)

pub returns-in_err-parted_clause : goal.returns-in_err-parted_clause
returns-in_err-parted_clause g c =
    let p = err_from_is_err_and c.from_residual.result c.from_residual.ensures.1 in
    record { visits_row = rw (p.1, p.2) (along_stop (Shown g.F.Fn c.args.visit.now) (parted_cell (means c.args.self.now.table.now) (g.R.SlotRule.parts c.args.rule.now) c.args.self.now.before c.args.a) _ _ _ _ _ _ _ c.loop-b.invariant c.loop-b-test.true (visits_as (Shown g.F.Fn c.args.visit.now) _ _ _ _ _ (parted_is (means c.args.self.now.table.now) (g.R.SlotRule.parts c.args.rule.now) c.args.self.now.before _ _ _ _ c.step-first.ensures.answers_step c.step.ensures.answers_step) c.in_err-parted_clause.ensures.visits_parted)) }
