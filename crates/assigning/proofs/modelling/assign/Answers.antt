use Rattle.std.proofs.Common.{sym, ap, subst}
use Rattle.rules.specs.Problems.{Sound}
use Rattle.rules.proofs.Models.{formula_means_sheets_lem}
use Rattle.problem.specs.Listed.{problem_of}
use Rattle.problem.proofs.Lawful.{lawful_sound}
use Rattle.std.proofs.lemmas.Result.{err_from_is_err_and}
use Rattle.assigning.proofs.Refusing.{undoes_decode_lem, assigns_as, assigns_not}
use Rattle.assigning.proofs.modelling.assign.Goals as goal

pub assign_sheet-requires : goal.assign_sheet-requires
assign_sheet-requires g c = record { few_slots = rw c.in_ok-of.ensures.states_or_refuses.3 c.in_ok-of.ensures.states_or_refuses.0; sound = subst Sound (sym c.in_ok-of.ensures.states_or_refuses.1) (lawful_sound c.args.problem.now.bytes.now c.args.problem.now.lawful) }

pub returns : goal.returns
returns g c =
    let s = c.args.problem.now.bytes.now in
    let p = problem_of s in
    let rule = g.R.SlotRule.parts c.args.rule.now in
    let t = c.args.horizon in
    let law = formula_means_sheets_lem p (lawful_sound s c.args.problem.now.lawful) rule (g.met.R.SlotRule.lawful c.args.rule.now) t in
    let e = c.in_ok-of.ensures.states_or_refuses in
    let d = assigns_as e.1 (ap g.R.SlotRule.parts e.2) e.3 c.assign_sheet.ensures.assigns in
    record { refuses_in_order = d.answers; writes_the_model = d.writes; undoes_decode = undoes_decode_lem p rule t law }

pub returns-in_err-of : goal.returns-in_err-of
returns-in_err-of g c =
    let s = c.args.problem.now.bytes.now in
    let p = problem_of s in
    let rule = g.R.SlotRule.parts c.args.rule.now in
    let t = c.args.horizon in
    let law = formula_means_sheets_lem p (lawful_sound s c.args.problem.now.lawful) rule (g.met.R.SlotRule.lawful c.args.rule.now) t in
    let e = err_from_is_err_and c.from_residual.result c.from_residual.ensures.1 in
    let why = c.in_err-of.ensures.states_or_refuses in
    let d = assigns_not p rule t c.args.lines.now c.args.truth.now _ why.1 why.0 in
    rw (e.1, e.2) (record { refuses_in_order = d.answers; writes_the_model = d.writes; undoes_decode = undoes_decode_lem p rule t law })
