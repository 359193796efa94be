use Rattle.std.proofs.Common.{◌≡◌, ◌+◌, ◌≤◌, List, ◌++◌, ap, ◌∙◌, arith, rules}
use Rattle.rules.specs.Clauses.{Clause, total}
use Rattle.rules.specs.Formula.{formula}
use Rattle.rules.proofs.Ranges.{formula_good}
use Rattle.problem.specs.Tables.{means}
use Rattle.planner.proofs.Adding.{added_by}
use Rattle.planner.proofs.encoding.add_formula.Goals as goal

pub returns : goal.returns
returns g c =
    let t = c.args.formula.now.table in
    let p = means t in
    let rule = g.R.SlotRule.parts c.args.formula.now.rule.now in
    let sink = c.args.sink.now in
    let cost = g.S.Sink.cost in
    let all = formula p rule c.args.formula.now.horizon in
    let good = formula_good p rule c.args.formula.now.horizon (g.S.Source.widest sink) t.few.1 c.requires.wide in
    let none : total cost (g.S.Source.held sink) ≡ 0 = ap (total cost) c.requires.empty in
    let fits : total cost (g.S.Source.held sink) + total cost all ≤ g.S.Sink.capacity sink = omega (arith, none, c.requires.room) in
    let i = added_by g.S.Source.held g.S.Source.widest g.S.Sink.capacity cost g.S.Sink.free g.S.Sink.lent _ _ (λ a b c r h. search rules) all sink c.each_clause.new.state _ c.each_clause.ensures.visits_formula good fits in
    record { grants = i.grants; holds = i.holds ∙ ap (λ (cs : List Clause). cs ++ all) c.requires.empty; rest = i.rest; kept = i.kept }
