use Rattle.std.proofs.Common.{◌≡◌, ℕ, ◌≤◌, Bool, List, length, take, Some, Option, MatchOption, sym, refl, ap, ◌∙◌, subst, arith, rules}
use Rattle.rules.specs.Clauses.{Satisfies, value}
use Rattle.rules.specs.Formula.{vars, formula}
use Rattle.rules.specs.Sheets.{Sheet, model}
use Rattle.rules.proofs.Models.{formula_means_sheets_lem}
use Rattle.rules.specs.Problems.{Problem}
use Rattle.rules.specs.declared.line.Line.{Line}
use Rattle.problem.specs.declared.table.StepTable.{StepTable}
use Rattle.problem.specs.Tables.{means}
use Rattle.assigning.specs.declared.lines.SheetLines.{SheetLines}
use Rattle.checking.specs.Told.{told, bytes_of}
use Rattle.decoding.proofs.Rounds.{told_back}
use Rattle.assigning.proofs.Refusing.{meets_holds, holds_meets, refuse_17, grant}
use Rattle.assigning.proofs.Valuing.{most, builds_as}
use Rattle.assigning.proofs.modelling.assign_sheet.Goals as goal

pub slice_bounds-built-end : goal.slice_bounds-built-end
slice_bounds-built-end g c =
    let f = c.args.formula.now in
    let h : c.variables-variables.result ≤ length c.build-bytes.result = omega (arith, most f.horizon f.table.facts f.table.steps c.requires.few_slots f.table.few.0 f.table.few.1, c.variables-variables.ensures.counts_variables, c.build-bytes.ensures.long) in
    search rules

-- the bytes that are built tell the model
told_model : (v w : ℕ) (bytes : List ℕ) (vs : List Bool) → v ≡ w → take w bytes ≡ bytes_of vs → told (take v bytes) ≡ vs
told_model v w bytes vs z e = ap (λ n. told (take n bytes)) z ∙ ap told e ∙ told_back vs

-- what the check of the lines found
told_sheet : (p : Problem) (t : ℕ) (ls : List Line) (table : StepTable) (o : Option SheetLines) (s : SheetLines) → o ≡ Some s → MatchOption o (Sheet p t ls → ⊥) (λ x. Sheet p t ls × (x.table.now ≡ table) × (x.horizon ≡ t) × (x.lines.now ≡ ls)) → Sheet p t ls × (s.table.now ≡ table) × (s.horizon ≡ t) × (s.lines.now ≡ ls)
told_sheet p t ls table o s e h = subst (λ (x : Option SheetLines). MatchOption x (Sheet p t ls → ⊥) (λ x. Sheet p t ls × (x.table.now ≡ table) × (x.horizon ≡ t) × (x.lines.now ≡ ls))) e h

pub returns-then-not-meets_formula : goal.returns-then-not-meets_formula
returns-then-not-meets_formula g c =
    let p = means c.args.formula.now.table in
    let rule = g.R.SlotRule.parts c.args.formula.now.rule.now in
    let t = c.args.formula.now.horizon in
    let ls = c.args.lines.now in
    let law = formula_means_sheets_lem p c.requires.sound rule (g.met.R.SlotRule.lawful c.args.formula.now.rule.now) t in
    let of = c.of.ensures.of_sheet in
    let read = told_sheet p t ls c.args.formula.now.table _ _ c.in_ok-sheet.ensures.ok_part c.read.ensures.answers_sheet in
    let built = builds_as c.build-bytes.result (ap (λ (s : SheetLines). means s.table.now) of ∙ ap means read.1) (ap (λ (s : SheetLines). s.horizon) of ∙ read.2) (ap (λ (s : SheetLines). s.lines.now) of ∙ read.3) c.build-bytes.ensures.builds_model in
    let z = c.variables-variables.ensures.counts_variables in
    let same = told_model c.variables-variables.result (vars p t) c.build-bytes.result (model p t ls) z built in
    record {
      assigns = record {
        answers = refuse_17 p rule t ls (length c.args.truth.now) c.requires.few_slots (c.if-truth-variables.false ∙ z) read.0 (λ h. c.if-not-meets_formula.ensures.answers_satisfaction (subst (λ (vs : List Bool). Satisfies (value vs) (formula p rule t)) (sym same) (holds_meets p rule t law ls read.0 h)));
        writes = refl;
      };
    }

pub returns : goal.returns
returns g c =
    let p = means c.args.formula.now.table in
    let rule = g.R.SlotRule.parts c.args.formula.now.rule.now in
    let t = c.args.formula.now.horizon in
    let ls = c.args.lines.now in
    let law = formula_means_sheets_lem p c.requires.sound rule (g.met.R.SlotRule.lawful c.args.formula.now.rule.now) t in
    let of = c.of.ensures.of_sheet in
    let read = told_sheet p t ls c.args.formula.now.table _ _ c.in_ok-sheet.ensures.ok_part c.read.ensures.answers_sheet in
    let built = builds_as c.build-bytes.result (ap (λ (s : SheetLines). means s.table.now) of ∙ ap means read.1) (ap (λ (s : SheetLines). s.horizon) of ∙ read.2) (ap (λ (s : SheetLines). s.lines.now) of ∙ read.3) c.build-bytes.ensures.builds_model in
    let z = c.variables-variables.ensures.counts_variables in
    let same = told_model c.variables-variables.result (vars p t) c.build-bytes.result (model p t ls) z built in
    record {
      assigns = record {
        answers = grant p rule t ls (length c.args.truth.now) c.requires.few_slots (c.if-truth-variables.false ∙ z) read.0 (meets_holds p rule t law ls read.0 (subst (λ (vs : List Bool). Satisfies (value vs) (formula p rule t)) same c.if-not-meets_formula.ensures.answers_satisfaction));
        writes = c.copy_from_slice.ensures.after ∙ ap (λ n. take n c.build-bytes.result) z ∙ built;
      };
    }
