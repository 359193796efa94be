use Rattle.std.proofs.Common.{◌+◌, ◌-◌, ◌*◌, true, List, take, set, sym, refl, subst, arith}
use Rattle.std.proofs.lemmas.List.{take_more, take_all}
use Rattle.rules.specs.declared.line.Line.{Line}
use Rattle.assigning.specs.Slots.{Marks}
use Rattle.assigning.proofs.Ordered.{no_line, line_at, line_in_table}
use Rattle.assigning.proofs.Pushed.{marks_none, marks_more}
use Rattle.assigning.proofs.lines.SheetLines.mark.Goals as goal

pub loop-l-init : goal.loop-l-init
loop-l-init c = marks_none

pub overflow_sub-marks : goal.overflow_sub-marks
overflow_sub-marks c = (line_in_table c.args.self.now c.loop-l.l-index c.loop-l-test.true).0

pub overflow_sub-marks-in-loop-l : goal.overflow_sub-marks-in-loop-l
overflow_sub-marks-in-loop-l c = (line_in_table c.args.self.now c.loop-l.l-index c.loop-l-test.true).2

pub bounds-marks-l : goal.bounds-marks-l
bounds-marks-l c =
    let w = line_in_table c.args.self.now c.loop-l.l-index c.loop-l-test.true in
    omega (arith, w.0, w.1, w.2, w.3)

pub loop-l-preserved : goal.loop-l-preserved
loop-l-preserved c =
    let ls = c.args.self.now.lines.now in
    let i = c.loop-l.l-index in
    let l = line_at c.args.self.now i in
    let w = line_in_table c.args.self.now c.loop-l.l-index c.loop-l-test.true in
    let k = 128 * (l.slot - 1) + (l.step - 1) in
    subst (λ (xs : List Line). Marks xs (set c.loop-l.marks k true)) (sym (take_more ls i no_line c.loop-l-test.true)) (marks_more (take i ls) l c.loop-l.marks k refl w.0 w.1 w.2 w.3 c.loop-l.invariant)

pub returns : goal.returns
returns c = record { marks_lines = subst (λ (xs : List Line). Marks xs c.loop-l.marks) (take_all c.loop-l.l-index c.args.self.now.lines.now c.loop-l-test.false) c.loop-l.invariant }
