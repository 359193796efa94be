use Rattle.std.proofs.Common.{◌≤◌, length, arith}
use Rattle.rules.specs.Steps.{single}
use Rattle.rules.specs.Clauses.{literals}
use Rattle.rules.specs.Formula.{start_clauses, goal_clauses}
use Rattle.problem.specs.Tables.{means}
use Rattle.formula.proofs.Totals.{tallied_by, few_starts, few_goals, length_total}
use Rattle.formula.proofs.Visiting.{visits_map}
use Rattle.formula.proofs.whole.Formula.count_ends.Goals as goal

pub returns : goal.returns
returns g c =
    let t = c.args.self.now.table in
    let p = means t in
    let xs = start_clauses p in
    let ys = goal_clauses p c.args.self.now.horizon in
    let a : length xs ≤ 128 = omega (arith, length_total xs, few_starts (λ _. 1) p t.few.0 t.few.1 single (λ c l. omega arith) (λ c l. omega arith)) in
    let b : length ys ≤ 128 = omega (arith, length_total ys, few_goals (λ _. 1) p t.few.0 t.few.1 single (λ c l. omega arith) (λ c l. omega arith) c.args.self.now.horizon) in
    let d : literals xs ≤ 128 = few_starts length p t.few.0 t.few.1 single (λ c l. l) (λ c l. l) in
    let e : literals ys ≤ 128 = few_goals length p t.few.0 t.few.1 single (λ c l. l) (λ c l. l) c.args.self.now.horizon in
    let i = tallied_by _ _ (λ a b c r h. h) xs _ _ _ c.each_start.ensures.visits_starts (omega arith) (omega arith) in
    let j = tallied_by _ _ (λ a b c r h. h) ys _ _ _ c.each_goal.ensures.visits_goals (omega (arith, i.0)) (omega (arith, i.1)) in
    record { clauses = omega (arith, i.0, j.0); literals = omega (arith, i.1, j.1); few_clauses = omega (arith, i.0, j.0); few_literals = omega (arith, i.1, j.1) }
