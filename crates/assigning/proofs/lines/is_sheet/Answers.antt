use Rattle.std.proofs.Common.{◌&&◌, rules, tests, sym, subst, ◌∙◌}
use Rattle.std.proofs.lemmas.Fn.{always_returns_same}
use Rattle.assigning.specs.Rows.{earlier, named}
use Rattle.assigning.proofs.Ordered.{Steady, steady_rows, unsteady_rows}
use Rattle.assigning.proofs.lines.is_sheet.Goals as goal

pub returns-then-is_sorted_by : goal.returns-then-is_sorted_by
returns-then-is_sorted_by c =
    let ls = c.args.lines.now in
    let steps = c.args.table.now.steps in
    let steady = c.is_sorted_by.ensures.cases (λ l m. named c.args.horizon steps l && earlier l m) (always_returns_same _ _ _ (λ a r f' h. search (rules, tests))) in
    record { tests_rows = steady_rows c.args.horizon steps ls c.is_none_or.result c.last.result (subst (Steady c.args.horizon steps ls) c.if-is_sorted_by.true steady) c.last.ensures.item (search rules) }

pub returns-else-is_sorted_by : goal.returns-else-is_sorted_by
returns-else-is_sorted_by c =
    let ls = c.args.lines.now in
    let steps = c.args.table.now.steps in
    let steady = c.is_sorted_by.ensures.cases (λ l m. named c.args.horizon steps l && earlier l m) (always_returns_same _ _ _ (λ a r f' h. search (rules, tests))) in
    record { tests_rows = c.if-is_sorted_by.false ∙ sym (unsteady_rows c.args.horizon steps ls (subst (Steady c.args.horizon steps ls) c.if-is_sorted_by.false steady)) }
