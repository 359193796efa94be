use Rattle.std.proofs.Common.{◌≡◌, ◌+◌, ◌-◌, ◌<◌, [], ◌∷◌, length, sym, ap, subst, arith}
use Rattle.rules.specs.declared.line.Line.{Line}
use Rattle.rules.specs.Clauses.{value}
use Rattle.problem.specs.Tables.{means}
use Rattle.memory.specs.declared.lent_list.List.{List}
use Rattle.memory.specs.Held.{items, room}
use Rattle.checking.specs.Told.{told}
use Rattle.decoding.specs.Added.{lines_from, slot_lines}
use Rattle.decoding.proofs.Adding.{Way, way_more, written_none, added}
use Rattle.decoding.proofs.Lines.{line, step_in, step_out}
use Rattle.decoding.proofs.valuation.Valuation.write_slot.Goals as goal
use Rattle.decoding.proofs.valuation.Valuation.write_slot.Goals.{then-has_step, else-has_step}

pub loop-a-preserved : goal.loop-a-preserved
loop-a-preserved c =
    let p = means c.args.self.now.table.now in
    let w = value (told c.args.self.now.truth.now) in
    let u = c.args.u in
    let a = c.loop-a.a in
    let end = c.args.self.now.table.now.steps + 1 in
    let l : a < end = omega arith in
    let all = slot_lines p w u in
    let left = lines_from p w u a (end - a) in
    let next = lines_from p w u (a + 1) (end - (a + 1)) in
    let start = c.args.sheet.now in
    let before = c.loop-a.sheet in
    elim c.if-has_step.branch [
      | then-has_step k ↦
          let e = step_in p w u a end l (sym k.if-has_step.ensures.answers_step) in
          let fits : length (items before) < room before = omega (arith, ap length e, c.loop-a.invariant.0) in
          let one = added before k.add.new.self (line (u + 1) a) k.add.result k.add.ensures.refuses_when_full k.add.ensures.adds_item k.add.ensures.takes_spare k.add.ensures.keeps_room k.add.ensures.keeps_loan fits in
          subst (λ (b : List Line). Way start all b next) (sym k.sheet-is) (way_more start before k.add.new.self all left (line (u + 1) a ∷ []) next e c.loop-a.invariant one)
      | else-has_step k ↦
          let e : left ≡ next = step_out p w u a end l (sym k.if-has_step.ensures.answers_step) in
          subst (λ (b : List Line). Way start all b next) (sym k.sheet-is) (way_more start before before all left [] next e c.loop-a.invariant (written_none before))
    ]
