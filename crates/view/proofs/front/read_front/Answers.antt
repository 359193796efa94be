use Rattle.std.proofs.Common.{get_or, sym}
use Rattle.std.proofs.lemmas.Bool.{eqb-true, eqb-false}
use Rattle.view.proofs.Tops.{front_more, front_none, unended_bare}
use Rattle.view.proofs.front.read_front.Goals as goal

pub loop-line-preserved : goal.loop-line-preserved
loop-line-preserved c = front_more c.args.text.now c.loop-line.left.now c.in-Some.line.now c.in-Some.rest.now c.in-Some.ensures.cuts_line c.loop-line.invariant.0 c.loop-line.invariant.1 (eqb-true (get_or c.in-Some.line.now 0 0) 99 (sym c.if-is_comment.ensures.tells_comment))

pub returns-in_err-v : goal.returns-in_err-v
returns-in_err-v c =
    let other = eqb-false (get_or c.in-Some.line.now 0 0) 99 (sym c.if-is_comment.ensures.tells_comment) in
    record { reads_front = rw c.from_residual.ensures (front_none c.args.text.now c.loop-line.left.now c.in-Some.line.now c.in-Some.rest.now c.in-Some.ensures.cuts_line c.loop-line.invariant.0 c.loop-line.invariant.1 other c.in_err-v.ensures.reads_head) }

pub returns : goal.returns
returns c = record { reads_front = λ v d body h. unended_bare c.loop-line.left.now c.in_default.ensures.cuts_line v d body (c.loop-line.invariant.0 v d body h) }
