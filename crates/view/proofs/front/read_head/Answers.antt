use Rattle.std.proofs.Common.{Some, sym, subst}
use Rattle.std.proofs.lemmas.Slice.Eq.{strip_prefix_is}
use Rattle.view.specs.Format.{head_mark}
use Rattle.view.specs.Reads.{ReadsHead}
use Rattle.view.proofs.Tops.{head_front, head_back, head_read}
use Rattle.view.proofs.front.read_head.Goals as goal
use Rattle.std.proofs.lemmas.Bool.Decides.{Decides-eqb}

pub returns-in_err-v : goal.returns-in_err-v
returns-in_err-v c =
    let line = c.args.line.now in
    let rest = c.in_ok-numbers.numbers in
    let mark = strip_prefix_is Decides-eqb line head_mark (Some rest) c.in_ok-numbers.ensures.cases in
    let two = c.in_ok-variables in
    record { reads_head = subst (ReadsHead line) (sym c.from_residual-in_err-v.ensures) (head_front line rest.now mark two.variables.now two.clauses.now two.ensures.cuts_at_first c.in_err-v.ensures.reads_size) }

pub returns-in_err-c : goal.returns-in_err-c
returns-in_err-c c =
    let line = c.args.line.now in
    let rest = c.in_ok-numbers.numbers in
    let mark = strip_prefix_is Decides-eqb line head_mark (Some rest) c.in_ok-numbers.ensures.cases in
    let two = c.in_ok-variables in
    record { reads_head = subst (ReadsHead line) (sym c.from_residual-in_err-c.ensures) (head_back line rest.now mark two.variables.now two.clauses.now two.ensures.cuts_at_first c.in_err-c.ensures.reads_size) }

pub returns : goal.returns
returns c =
    let line = c.args.line.now in
    let rest = c.in_ok-numbers.numbers in
    let mark = strip_prefix_is Decides-eqb line head_mark (Some rest) c.in_ok-numbers.ensures.cases in
    let two = c.in_ok-variables in
    record { reads_head = head_read line rest.now mark two.variables.now two.clauses.now two.ensures.cuts_at_first c.in_ok-v.v c.in_ok-c.c c.in_ok-v.ensures.reads_size c.in_ok-c.ensures.reads_size }
