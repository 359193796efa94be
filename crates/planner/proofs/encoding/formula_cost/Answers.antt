use Rattle.std.proofs.Common.{◌^◌, ◌<◌, arith, rules}
use Rattle.rules.specs.Clauses.{total}
use Rattle.rules.specs.Formula.{formula}
use Rattle.problem.specs.Tables.{means}
use Rattle.planner.proofs.Sums.{costed_by, cost_fits}
use Rattle.planner.proofs.encoding.formula_cost.Goals as goal

pub returns : goal.returns
returns g c =
    let t = c.args.formula.now.table in
    let p = means t in
    let rule = g.R.SlotRule.parts c.args.formula.now.rule.now in
    let all = formula p rule c.args.formula.now.horizon in
    let cost = g.S.Sink.cost in
    let fits : total cost all < 2 ^ 64 = cost_fits p t.few.0 t.few.1 rule c.args.formula.now.horizon (omega (arith, c.args.formula.now.small)) cost g.S.Sink.cheap in
    let sum = costed_by cost _ _ (λ a b c r h. search rules) all 0 c.each_clause.new.state _ c.each_clause.ensures.visits_formula (omega (arith, fits)) in
    record { sums_costs = omega (arith, sum) }
