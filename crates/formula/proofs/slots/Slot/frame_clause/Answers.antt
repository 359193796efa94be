use Rattle.std.proofs.Common.{◌≡◌, List, ℤ, ◌+◌, ◌++◌, sym, ◌∙◌, ap, subst, pos, w32, SFits, arith, rules}
use Rattle.std.proofs.lemmas.Grind.{common_steps}
use Rattle.rules.specs.Problems.{steps_of}
use Rattle.problem.specs.Tables.{means}
use Rattle.formula.specs.Effects.{doers}
use Rattle.formula.specs.Visits.{Shown}
use Rattle.formula.proofs.Frames.{word_is, Explains, explains_hit, explains_miss, explains_end}
use Rattle.formula.proofs.slots.Slot.frame_clause.Goals as goal
use Rattle.formula.proofs.slots.Slot.frame_clause.Goals.{then-has, else-has}

pub loop-a-preserved : goal.loop-a-preserved
loop-a-preserved g c =
    let p = means c.args.self.now.table.now in
    let u = c.args.self.now.before in
    let all = c.push-2.new.self.items ++ doers p c.args.part u c.args.f (steps_of p) in
    elim c.if-has.branch [
      | then-has w ↦ let s : SFits w32 w.aye.result = search rules in
          explains_hit p c.args.part u c.args.f _ _ _ _ _ c.loop-a.invariant c.loop-a-test.true (sym w.if-has.ensures.answers_part) (word_is _ _ s (w.aye.ensures.positive ∙ ap pos w.step.ensures.value)) (ap (λ v. v.items) w.clause-is ∙ w.push-then-has.ensures.items)
      | else-has w ↦ subst (λ v. Explains p c.args.part u c.args.f all v.items (c.loop-a.a + 1)) (sym w.clause-is) (explains_miss p c.args.part u c.args.f _ _ _ c.loop-a.invariant c.loop-a-test.true (sym w.if-has.ensures.answers_part))
    ]

pub returns : goal.returns
returns g c =
    let p = means c.args.self.now.table.now in
    let all = doers p c.args.part c.args.self.now.before c.args.f (steps_of p) in
    let two : c.push-2.new.self.items ≡ c.args.changed = grind (arith, common_steps) in
    record { explains_change = subst (λ (cs : List ℤ). Shown g.F.Fn c.args.visit.now c.args.state.now cs c.show.result c.show.new.state) (c.deref.ensures.0 ∙ explains_end p c.args.part c.args.self.now.before c.args.f _ _ _ c.loop-a.invariant c.loop-a-test.false ∙ ap (λ xs. xs ++ all) two) c.show.ensures.shows_clause }
