use Rattle.std.proofs.Common.{length, sym, arith}
use Rattle.std.proofs.lemmas.Bool.{le-leb, cond-false}
use Rattle.rules.specs.Clauses.{bad_clause}
use Rattle.text.specs.Bounds.{text_cheap}
use Rattle.text.specs.Lines.{line_text}
use Rattle.text.proofs.digits.line_fits.Goals as goal

pub returns-then-left-clause : goal.returns-then-left-clause
returns-then-left-clause c =
    let xs = c.args.clause.now in
    let cheap = text_cheap xs in
    let cost = cond-false (bad_clause 999999 xs) 0 (length (line_text xs)) c.requires.good in
    record { fits_line = sym (le-leb (length (line_text xs)) c.args.left (omega (arith, cheap, cost, c.if-left-clause.true))) }
