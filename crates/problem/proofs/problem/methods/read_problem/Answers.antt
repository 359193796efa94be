use Rattle.std.proofs.Common.{sym, arith}
use Rattle.std.proofs.lemmas.Result.{err_from_is_err_and}
use Rattle.problem.proofs.Bytewise.{granted_renders, refused_renders_not}
use Rattle.problem.proofs.problem.methods.read_problem.Goals as goal

pub returns-in_err-listing-clause-grants_exactly_renderings : goal.returns-in_err-listing-clause-grants_exactly_renderings
returns-in_err-listing-clause-grants_exactly_renderings c =
    let e = err_from_is_err_and c.from_residual.result c.from_residual.ensures.1 in
    rw e.1 (refused_renders_not c.args.bytes.now (λ i. omega (arith, (c.type_inv.bytes i).fits)) _ c.in_err-listing.ensures.first_broken)

pub returns-clause-grants_exactly_renderings : goal.returns-clause-grants_exactly_renderings
returns-clause-grants_exactly_renderings c = granted_renders c.args.bytes.now (λ i. omega (arith, (c.type_inv.bytes i).fits)) (sym c.in_ok-listing.ensures.first_broken)
