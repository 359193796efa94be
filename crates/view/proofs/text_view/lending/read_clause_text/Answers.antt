use Rattle.std.proofs.Common.{sym, refl}
use Rattle.view.proofs.Sayings.{viewed, refused, unheaded_refused, read_back, never_refused}
use Rattle.view.proofs.text_view.lending.read_clause_text.Goals as goal

pub returns-in_default-clause-grants_exactly_renderings : goal.returns-in_default-clause-grants_exactly_renderings
returns-in_default-clause-grants_exactly_renderings c = (refl, unheaded_refused c.args.text.now c.in_default.ensures.reads_front)

pub returns-in_default-clause-reads_back_written : goal.returns-in_default-clause-reads_back_written
returns-in_default-clause-reads_back_written c = λ v cs k e. never_refused c.args.text.now (unheaded_refused c.args.text.now c.in_default.ensures.reads_front) v cs k e

pub returns-then-not-clauses_fit-clause-grants_exactly_renderings : goal.returns-then-not-clauses_fit-clause-grants_exactly_renderings
returns-then-not-clauses_fit-clause-grants_exactly_renderings c = (refl, refused c.args.text.now c.in-Some.variables c.in-Some.clauses c.in-Some.body.now c.in-Some.ensures.reads_front (sym c.if-not-clauses_fit.ensures.tells_clauses))

pub returns-then-not-clauses_fit-clause-reads_back_written : goal.returns-then-not-clauses_fit-clause-reads_back_written
returns-then-not-clauses_fit-clause-reads_back_written c =
    let none = refused c.args.text.now c.in-Some.variables c.in-Some.clauses c.in-Some.body.now c.in-Some.ensures.reads_front (sym c.if-not-clauses_fit.ensures.tells_clauses) in
    λ v cs k e. never_refused c.args.text.now none v cs k e

pub invariant_of-view : goal.invariant_of-view
invariant_of-view c =
    let h = c.in-Some.ensures.reads_front in
    let w = viewed c.args.text.now c.in-Some.variables c.in-Some.clauses c.in-Some.body.now h (sym c.if-not-clauses_fit.ensures.tells_clauses) in
    record { narrow = h.narrow; counted = w.counted; granted = w.granted; closed = w.closed }

pub returns-clause-grants_exactly_renderings : goal.returns-clause-grants_exactly_renderings
returns-clause-grants_exactly_renderings c = (viewed c.args.text.now c.in-Some.variables c.in-Some.clauses c.in-Some.body.now c.in-Some.ensures.reads_front (sym c.if-not-clauses_fit.ensures.tells_clauses)).renders

pub returns-clause-reads_back_written : goal.returns-clause-reads_back_written
returns-clause-reads_back_written c =
    let w = viewed c.args.text.now c.in-Some.variables c.in-Some.clauses c.in-Some.body.now c.in-Some.ensures.reads_front (sym c.if-not-clauses_fit.ensures.tells_clauses) in
    λ v cs k e. read_back c.args.text.now _ _ w.renders v cs k e
