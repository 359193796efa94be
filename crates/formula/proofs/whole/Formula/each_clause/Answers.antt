use Rattle.std.specs.List.{range_with_len}
use Rattle.std.proofs.lemmas.Result.{err_from_is_err_and}
use Rattle.rules.specs.Lists.{each}
use Rattle.rules.specs.Formula.{slot_clauses, start_clauses}
use Rattle.problem.specs.Tables.{means}
use Rattle.formula.specs.Visits.{Shown}
use Rattle.formula.proofs.Visiting.{visits_then, visits_stop, along_more, along_stop, along_end}
use Rattle.formula.proofs.whole.Formula.each_clause.Goals as goal

pub loop-u-preserved : goal.loop-u-preserved
loop-u-preserved g c = along_more (Shown g.F.Fn c.args.visit.now) (slot_clauses (means c.args.self.now.table) (g.R.SlotRule.parts c.args.self.now.rule.now)) _ _ _ _ _ _ c.loop-u.invariant c.loop-u-test.true c.in_ok-each_of_slot.ensures.visits_slot

pub returns : goal.returns
returns g c = record {
  visits_formula =
      visits_then (Shown g.F.Fn c.args.visit.now) (start_clauses (means c.args.self.now.table)) _ _ _ _ _ c.in_ok-each_start.ensures.visits_starts
      (visits_then (Shown g.F.Fn c.args.visit.now) (each (slot_clauses (means c.args.self.now.table) (g.R.SlotRule.parts c.args.self.now.rule.now)) (range_with_len 0 c.args.self.now.horizon)) _ _ _ _ _ (along_end (Shown g.F.Fn c.args.visit.now) (slot_clauses (means c.args.self.now.table) (g.R.SlotRule.parts c.args.self.now.rule.now)) _ _ _ _ _ c.loop-u.invariant c.loop-u-test.false) c.each_goal.ensures.visits_goals);
}

pub returns-in_err-each_start : goal.returns-in_err-each_start
returns-in_err-each_start g c =
    let e = c.from_residual in
    let p = err_from_is_err_and e.result e.ensures.1 in
    record { visits_formula = rw (p.1, p.2) (visits_stop (Shown g.F.Fn c.args.visit.now) (start_clauses (means c.args.self.now.table)) _ _ _ _ c.in_err-each_start.ensures.visits_starts) }

pub returns-in_err-each_of_slot : goal.returns-in_err-each_of_slot
returns-in_err-each_of_slot g c =
    let e = c.from_residual-in_err-each_of_slot in
    let p = err_from_is_err_and e.result e.ensures.1 in
    record {
      visits_formula =
          rw (p.1, p.2)
          (visits_then (Shown g.F.Fn c.args.visit.now) (start_clauses (means c.args.self.now.table)) _ _ _ _ _ c.in_ok-each_start.ensures.visits_starts
          (visits_stop (Shown g.F.Fn c.args.visit.now) (each (slot_clauses (means c.args.self.now.table) (g.R.SlotRule.parts c.args.self.now.rule.now)) (range_with_len 0 c.args.self.now.horizon)) _ _ _ _ (along_stop (Shown g.F.Fn c.args.visit.now) (slot_clauses (means c.args.self.now.table) (g.R.SlotRule.parts c.args.self.now.rule.now)) _ _ _ _ _ _ _ c.loop-u.invariant c.loop-u-test.true c.in_err-each_of_slot.ensures.visits_slot)));
    }
