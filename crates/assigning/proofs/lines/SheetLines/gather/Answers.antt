use Rattle.std.proofs.Common.{◌-◌, List, take, set, sym, subst, arith}
use Rattle.std.proofs.lemmas.List.{take_more, take_all}
use Rattle.rules.specs.declared.line.Line.{Line}
use Rattle.problem.specs.Tables.{means}
use Rattle.assigning.specs.Slots.{Changes}
use Rattle.assigning.proofs.Ordered.{no_line, line_at, line_in_table}
use Rattle.assigning.proofs.Pushed.{changes_none, changes_more}
use Rattle.assigning.proofs.lines.SheetLines.gather.Goals as goal

pub loop-l-init : goal.loop-l-init
loop-l-init c = changes_none (means c.args.self.now.table.now) c.default-changes.result c.default-changes.ensures.0 c.default-changes.ensures.1

pub overflow_sub-u : goal.overflow_sub-u
overflow_sub-u c = (line_in_table c.args.self.now c.loop-l.l-index c.loop-l-test.true).0

pub bounds-changes-u : goal.bounds-changes-u
bounds-changes-u c =
    let w = line_in_table c.args.self.now c.loop-l.l-index c.loop-l-test.true in
    omega (arith, w.0, w.1)

pub bounds-changes-u-in-loop-l : goal.bounds-changes-u-in-loop-l
bounds-changes-u-in-loop-l c =
    let w = line_in_table c.args.self.now c.loop-l.l-index c.loop-l-test.true in
    omega (arith, w.0, w.1)

pub loop-l-preserved : goal.loop-l-preserved
loop-l-preserved c =
    let p = means c.args.self.now.table.now in
    let ls = c.args.self.now.lines.now in
    let i = c.loop-l.l-index in
    let l = line_at c.args.self.now i in
    let w = line_in_table c.args.self.now c.loop-l.l-index c.loop-l-test.true in
    let k = l.slot - 1 in
    subst (λ (xs : List Line). Changes p xs (set c.loop-l.changes k c.with.result)) (sym (take_more ls i no_line c.loop-l-test.true))
    (changes_more p (take i ls) l c.loop-l.changes c.with.result w.0 w.1 c.with.ensures.joins_clears c.with.ensures.joins_sets c.loop-l.invariant)

pub returns : goal.returns
returns c = record { joins_parts = subst (λ (xs : List Line). Changes (means c.args.self.now.table.now) xs c.loop-l.changes) (take_all c.loop-l.l-index c.args.self.now.lines.now c.loop-l-test.false) c.loop-l.invariant }
