use Rattle.std.proofs.Common.{sym, refl, ◌∙◌}
use Rattle.problem.specs.Tables.{means}
use Rattle.assigning.proofs.Ordered.{rows_sheet, no_sheet}
use Rattle.assigning.proofs.lines.SheetLines.read.Goals as goal

pub returns-then-not-is_sheet : goal.returns-then-not-is_sheet
returns-then-not-is_sheet g c =
    let f = c.args.formula.now in
    record { answers_sheet = no_sheet (means f.table) f.horizon c.args.lines.now (sym c.is_sheet.ensures.tests_rows ∙ c.if-not-is_sheet.true) }

pub returns : goal.returns
returns g c =
    let f = c.args.formula.now in
    record { answers_sheet = (rows_sheet (means f.table) f.horizon c.args.lines.now (sym c.is_sheet.ensures.tests_rows ∙ c.if-not-is_sheet.false), refl, refl, refl) }
