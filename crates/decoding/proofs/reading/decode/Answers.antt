use Rattle.std.proofs.Common.{sym, ap, ◌∙◌, subst}
use mathlib.Core.List as L
use Rattle.std.proofs.lemmas.Bool.{cond-true}
use Rattle.rules.specs.declared.line.Line.{Line}
use Rattle.rules.proofs.Models.{formula_means_sheets_lem}
use Rattle.problem.specs.Listed.{problem_of}
use Rattle.problem.proofs.Lawful.{lawful_sound}
use Rattle.memory.specs.Held.{room}
use Rattle.decoding.specs.Decode.{SheetOfModel}
use Rattle.decoding.proofs.Adding.{grant_zero, decodes_as}
use Rattle.decoding.proofs.Refusing.{model_of}
use Rattle.decoding.proofs.Rounds.{sheet_of_model, undoes_assign_lem}
use Rattle.decoding.proofs.reading.decode.Goals as goal

pub returns-clause-gives_a_sheet : goal.returns-clause-gives_a_sheet
returns-clause-gives_a_sheet g c =
    let s = c.args.problem.now.bytes.now in
    let p = problem_of s in
    let rule = g.R.SlotRule.parts c.args.rule.now in
    let t = c.args.horizon in
    let bs = c.args.truth.now in
    let law = formula_means_sheets_lem p (lawful_sound s c.args.problem.now.lawful) rule (g.met.R.SlotRule.lawful c.args.rule.now) t in
    let e = c.in_ok-of.ensures.states_or_refuses in
    let d = decodes_as e.1 (ap g.R.SlotRule.parts e.2) e.3 c.decode_model.ensures.decodes in
    λ ok. subst (λ (ls : L.List Line). SheetOfModel p rule t bs ls) (sym (d.holds ∙ cond-true _ _ _ ok)) (sheet_of_model p rule t law bs (model_of p rule t bs _ _ d.answers (grant_zero c.decode_model.result ok)))

pub returns-clause-undoes_assign : goal.returns-clause-undoes_assign
returns-clause-undoes_assign g c =
    let s = c.args.problem.now.bytes.now in
    let p = problem_of s in
    undoes_assign_lem p (g.R.SlotRule.parts c.args.rule.now) c.args.horizon (formula_means_sheets_lem p (lawful_sound s c.args.problem.now.lawful) (g.R.SlotRule.parts c.args.rule.now) (g.met.R.SlotRule.lawful c.args.rule.now) c.args.horizon) (room c.args.sheet.now)
