use Rattle.std.proofs.Common.{length, sym, ◌∙◌, rules, arith}
use Rattle.std.proofs.lemmas.Bool.{eqb-false}
use Rattle.answers.proofs.Turns.{line_on, line_off, line_shorter, text_unended, text_unfinished}
use Rattle.answers.proofs.reader.take_lines.Goals as goal

pub returns-in_err-take_line : goal.returns-in_err-take_line
returns-in_err-take_line c =
    let none = c.loop-line.invariant ∙ line_off (length c.args.truth.now) c.loop-line.stage c.loop-line.truth c.loop-line.left.now (omega arith) c.in-Some.line.now c.in-Some.rest.now c.in-Some.ensures.cuts_line c.in_err-take_line.ensures.takes_line in
    record { takes_text = search rules }

pub loop-line-smaller : goal.loop-line-smaller
loop-line-smaller c = line_shorter c.loop-line.left.now c.in-Some.line.now c.in-Some.rest.now c.in-Some.ensures.cuts_line

pub loop-line-preserved : goal.loop-line-preserved
loop-line-preserved c = c.loop-line.invariant ∙ line_on (length c.args.truth.now) c.loop-line.stage c.loop-line.truth c.loop-line.left.now (omega arith) c.in-Some.line.now c.in-Some.rest.now c.in-Some.ensures.cuts_line _ _ c.in_ok-take_line.ensures.takes_line

pub returns-in_default-stage : goal.returns-in_default-stage
returns-in_default-stage c = record { takes_text = c.loop-line.invariant ∙ text_unended (length c.args.truth.now) c.loop-line.stage c.loop-line.truth c.loop-line.left.now c.in_default.ensures.cuts_line (omega (arith, eqb-false (length c.loop-line.left.now) 0 (sym c.if-is_empty.ensures))) }

pub returns-in_default-stage-2 : goal.returns-in_default-stage-2
returns-in_default-stage-2 c = record { takes_text = c.loop-line.invariant ∙ text_unfinished (length c.args.truth.now) c.loop-line.stage c.loop-line.truth c.loop-line.left.now c.in_default.ensures.cuts_line (search rules) }
