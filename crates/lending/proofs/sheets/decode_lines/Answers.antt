use Rattle.std.proofs.Common.{min, length, ◌∙◌, rules}
use Rattle.std.proofs.lemmas.Result.{err_from_is_err_and}
use Rattle.rules.specs.Clauses.{value}
use Rattle.rules.specs.Sheets.{sheet_of}
use Rattle.problem.specs.Listed.{problem_of}
use Rattle.memory.specs.Held.{items, spare, room}
use Rattle.checking.specs.Told.{told}
use Rattle.lending.proofs.SheetLoans.{same_tests, list_granted, list_refused}
use Rattle.lending.proofs.sheets.decode_lines.Goals as goal

pub returns : goal.returns
returns g c =
    let p = problem_of c.args.problem.now.bytes.now in
    let rule = g.R.SlotRule.parts c.args.rule.now in
    let t = c.args.horizon in
    let truth = c.args.truth.now in
    let made = c.new-sheet.ensures in
    let done = c.in_ok-decode.ensures in
    let sheet = c.decode.new.sheet in
    let all = list_granted c.args.lines.now sheet.memory.now (items c.new-sheet.result) (spare c.new-sheet.result) sheet.len made.holds_nothing made.spares_the_memory (sheet_of p t (value (told truth))) c.len.result done.holds_the_sheet done.leaves_the_rest c.len.ensures.counts_items in
    let loan = done.keeps_loan ∙ made.borrows in
    let some = all.0 in
    let is = all.1 in
    record { refuses_in_order = same_tests p rule t truth (room c.new-sheet.result) (min (length c.args.lines.now) 1048576) 0 made.has_room done.refuses_in_order; whole_memory = (some, search rules) }

pub returns-in_err-decode : goal.returns-in_err-decode
returns-in_err-decode g c =
    let p = problem_of c.args.problem.now.bytes.now in
    let rule = g.R.SlotRule.parts c.args.rule.now in
    let t = c.args.horizon in
    let truth = c.args.truth.now in
    let made = c.new-sheet.ensures in
    let done = c.in_err-decode.ensures in
    let sheet = c.decode.new.sheet in
    let e = err_from_is_err_and c.from_residual.result c.from_residual.ensures.1 in
    let is = list_refused c.args.lines.now sheet.memory.now (items c.new-sheet.result) (spare c.new-sheet.result) sheet.len made.holds_nothing made.spares_the_memory done.holds_the_sheet done.leaves_the_rest in
    let loan = done.keeps_loan ∙ made.borrows in
    record { refuses_in_order = rw (e.1, e.2) (same_tests p rule t truth (room c.new-sheet.result) (min (length c.args.lines.now) 1048576) _ made.has_room done.refuses_in_order); whole_memory = rw e.1 (search rules) }
