use Rattle.std.proofs.Common.{ℕ, List, ◌++◌, ap}
use Rattle.sheet_call.specs.Printed.{sheet_text}
use Rattle.sheet_call.proofs.PrintedLines.{printed_more, printed_all}
use Rattle.sheet_call.proofs.printing.sheet_text.Goals as goal

pub loop-line-init : goal.loop-line-init
loop-line-init c = ap (λ (bs : List ℕ). bs ++ sheet_text c.args.lines.now) c.new-out.ensures.items

pub loop-line-preserved : goal.loop-line-preserved
loop-line-preserved c = printed_more c.args.lines.now c.loop-line.line-index _ _ _ c.loop-line-test.true c.loop-line.invariant c.in_ok-push_line.ensures.appends_line

pub returns : goal.returns
returns c = record { prints_lines = printed_all c.args.lines.now c.loop-line.line-index _ c.loop-line-test.false c.loop-line.invariant }
