use Rattle.std.proofs.Common.{◌≤◌, length, arith}
use Rattle.rules.specs.Clauses.{literals}
use Rattle.rules.specs.Formula.{slot_clauses}
use Rattle.problem.specs.Tables.{means}
use Rattle.formula.proofs.Totals.{tallied_by, few_slot, length_total}
use Rattle.formula.proofs.whole.Formula.count_slot.Goals as goal

pub returns : goal.returns
returns g c =
    let t = c.args.self.now.table in
    let p = means t in
    let rule = g.R.SlotRule.parts c.args.self.now.rule.now in
    let xs = slot_clauses p rule 0 in
    let a : length xs ≤ 98560 = omega (arith, length_total xs, few_slot (λ _. 1) p t.few.0 t.few.1 rule (λ c l. omega arith) (λ c l. omega arith) 0) in
    let b : literals xs ≤ 98560 = few_slot length p t.few.0 t.few.1 rule (λ c l. l) (λ c l. l) 0 in
    let i = tallied_by _ _ (λ a b c r h. h) xs _ _ _ c.each_of_slot.ensures.visits_slot (omega arith) (omega arith) in
    record { clauses = omega (arith, i.0); literals = omega (arith, i.1); few_clauses = omega (arith, i.0); few_literals = omega (arith, i.1) }
