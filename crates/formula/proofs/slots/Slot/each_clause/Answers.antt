use Rattle.std.proofs.lemmas.Result.{err_from_is_err_and}
use Rattle.rules.specs.Formula.{frame_clauses}
use Rattle.problem.specs.declared.part.Part.TheVariants.{Needs, Sets, Clears}
use Rattle.problem.specs.Tables.{means}
use Rattle.formula.specs.Effects.{effect_clauses}
use Rattle.formula.specs.Visits.{Shown}
use Rattle.formula.proofs.Visiting.{visits_then, visits_stop}
use Rattle.formula.proofs.slots.Slot.each_clause.Goals as goal

pub returns : goal.returns
returns g c = record {
  visits_slot =
      (visits_then (Shown g.F.Fn c.args.visit.now) (effect_clauses (means c.args.self.now.table.now) Needs c.args.self.now.before) _ _ _ _ _ c.in_ok-each_effect.ensures.visits_effects
      (visits_then (Shown g.F.Fn c.args.visit.now) (effect_clauses (means c.args.self.now.table.now) Sets c.args.self.now.before) _ _ _ _ _ c.in_ok-each_effect-2.ensures.visits_effects
      (visits_then (Shown g.F.Fn c.args.visit.now) (effect_clauses (means c.args.self.now.table.now) Clears c.args.self.now.before) _ _ _ _ _ c.in_ok-each_effect-3.ensures.visits_effects
      (visits_then (Shown g.F.Fn c.args.visit.now) (frame_clauses (means c.args.self.now.table.now) c.args.self.now.before) _ _ _ _ _ c.in_ok-each_frame.ensures.visits_frames
      c.each_parted.ensures.visits_all_parted))));
}

pub returns-in_err-each_effect : goal.returns-in_err-each_effect
returns-in_err-each_effect g c =
    let e = c.from_residual in
    let p = err_from_is_err_and e.result e.ensures.1 in
    record {
      visits_slot =
          rw (p.1, p.2)
          (visits_stop (Shown g.F.Fn c.args.visit.now) (effect_clauses (means c.args.self.now.table.now) Needs c.args.self.now.before) _ _ _ _ c.in_err-each_effect.ensures.visits_effects);
    }

pub returns-in_err-each_effect-2 : goal.returns-in_err-each_effect-2
returns-in_err-each_effect-2 g c =
    let e = c.from_residual-in_err-each_effect-2 in
    let p = err_from_is_err_and e.result e.ensures.1 in
    record {
      visits_slot =
          rw (p.1, p.2)
          (visits_then (Shown g.F.Fn c.args.visit.now) (effect_clauses (means c.args.self.now.table.now) Needs c.args.self.now.before) _ _ _ _ _ c.in_ok-each_effect.ensures.visits_effects
          (visits_stop (Shown g.F.Fn c.args.visit.now) (effect_clauses (means c.args.self.now.table.now) Sets c.args.self.now.before) _ _ _ _ c.in_err-each_effect-2.ensures.visits_effects));
    }

pub returns-in_err-each_effect-3 : goal.returns-in_err-each_effect-3
returns-in_err-each_effect-3 g c =
    let e = c.from_residual-in_err-each_effect-3 in
    let p = err_from_is_err_and e.result e.ensures.1 in
    record {
      visits_slot =
          rw (p.1, p.2)
          (visits_then (Shown g.F.Fn c.args.visit.now) (effect_clauses (means c.args.self.now.table.now) Needs c.args.self.now.before) _ _ _ _ _ c.in_ok-each_effect.ensures.visits_effects
          (visits_then (Shown g.F.Fn c.args.visit.now) (effect_clauses (means c.args.self.now.table.now) Sets c.args.self.now.before) _ _ _ _ _ c.in_ok-each_effect-2.ensures.visits_effects
          (visits_stop (Shown g.F.Fn c.args.visit.now) (effect_clauses (means c.args.self.now.table.now) Clears c.args.self.now.before) _ _ _ _ c.in_err-each_effect-3.ensures.visits_effects)));
    }

pub returns-in_err-each_frame : goal.returns-in_err-each_frame
returns-in_err-each_frame g c =
    let e = c.from_residual-in_err-each_frame in
    let p = err_from_is_err_and e.result e.ensures.1 in
    record {
      visits_slot =
          rw (p.1, p.2)
          (visits_then (Shown g.F.Fn c.args.visit.now) (effect_clauses (means c.args.self.now.table.now) Needs c.args.self.now.before) _ _ _ _ _ c.in_ok-each_effect.ensures.visits_effects
          (visits_then (Shown g.F.Fn c.args.visit.now) (effect_clauses (means c.args.self.now.table.now) Sets c.args.self.now.before) _ _ _ _ _ c.in_ok-each_effect-2.ensures.visits_effects
          (visits_then (Shown g.F.Fn c.args.visit.now) (effect_clauses (means c.args.self.now.table.now) Clears c.args.self.now.before) _ _ _ _ _ c.in_ok-each_effect-3.ensures.visits_effects
          (visits_stop (Shown g.F.Fn c.args.visit.now) (frame_clauses (means c.args.self.now.table.now) c.args.self.now.before) _ _ _ _ c.in_err-each_frame.ensures.visits_frames))));
    }
