use Rattle.std.proofs.Common.{◌-◌, ◌≤◌, sym, ◌∙◌, arith}
use Rattle.std.proofs.lemmas.Bool.{le-leb}
use Rattle.rules.specs.Clauses.{total}
use Rattle.rules.specs.Formula.{formula}
use Rattle.problem.specs.Tables.{means}
use Rattle.planner.proofs.Sums.{total_cheap, few_literals, few_clauses}
use Rattle.planner.proofs.encoding.formula_fits.Goals as goal

pub overflow_mul-literals : goal.overflow_mul-literals
overflow_mul-literals g c =
    let t = c.args.formula.now.table in
    omega (arith, c.args.formula.now.small, c.requires.summed, few_literals (means t) t.few.0 t.few.1 (g.R.SlotRule.parts c.args.formula.now.rule.now) c.args.formula.now.horizon)

pub overflow_mul-clauses : goal.overflow_mul-clauses
overflow_mul-clauses g c =
    let t = c.args.formula.now.table in
    omega (arith, c.args.formula.now.small, c.requires.counted, few_clauses (means t) t.few.0 t.few.1 (g.R.SlotRule.parts c.args.formula.now.rule.now) c.args.formula.now.horizon)

pub overflow_add-literals : goal.overflow_add-literals
overflow_add-literals g c =
    let t = c.args.formula.now.table in
    let rule = g.R.SlotRule.parts c.args.formula.now.rule.now in
    omega (arith, c.args.formula.now.small, c.requires.counted, c.requires.summed, few_literals (means t) t.few.0 t.few.1 rule c.args.formula.now.horizon, few_clauses (means t) t.few.0 t.few.1 rule c.args.formula.now.horizon)

pub returns-then-literals-clauses : goal.returns-then-literals-clauses
returns-then-literals-clauses g c =
    let sink = c.args.sink.now in
    let cost = g.S.Sink.cost in
    let all = formula (means c.args.formula.now.table) (g.R.SlotRule.parts c.args.formula.now.rule.now) c.args.formula.now.horizon in
    let left = g.S.Sink.capacity sink - total cost (g.S.Source.held sink) in
    let l : total cost all ≤ left = omega (arith, total_cheap cost g.S.Sink.cheap all, c.requires.counted, c.requires.summed, c.space_left.ensures.answers_space, c.if-literals-clauses.true) in
    record { tells_fit = le-leb _ _ c.if-literals-clauses.true ∙ sym (le-leb (total cost all) left l) }
