-- Runs over the formula of a problem.
use Rattle.std.proofs.Common.{◌≡◌, ℕ, false, eqb, ltb, [], ◌∷◌, nat_abs, refl, arith}
use Rattle.std.specs.List.{AllByRecursion}
use Rattle.std.proofs.ByRecursion.{All-weaker}
use Rattle.std.proofs.lemmas.Bool.{or_parts, eqb-false, ltb-false, ne_eqb, le-ltb}
use Rattle.rules.specs.Lists.{any}
use Rattle.rules.specs.Steps.{Rule}
use Rattle.rules.specs.Problems.{Problem}
use Rattle.rules.specs.Clauses.{Clause, bad_literal, value}
use Rattle.rules.specs.Formula.{vars, formula}
use Rattle.rules.specs.Sheets.{model, sheet_of}
use Rattle.rules.proofs.Models.{formula_means_sheets_lem}
use Rattle.rules.proofs.Ranges.{formula_sized}
use Rattle.runs.specs.Calls.{Over}
use Rattle.runs.specs.Plans.{SheetsAreSafe, NoSheetConcludes}
use Rattle.runs.proofs.Safety.{models_are_safe_lem}
use Rattle.runs.proofs.Concluding.{no_model_concludes_lem}

-- a clause without a bad literal is over the variables
pub over_unless_bad : (v : ℕ) (c : Clause) → any (bad_literal v) c ≡ false → Over v c
over_unless_bad v [] h = tt
over_unless_bad v (l ∷ c) h =
    let (here, rest) = or_parts (bad_literal v l) (any (bad_literal v) c) h in
    let (zero', wide) = or_parts (eqb (nat_abs l) 0) (ltb v (nat_abs l)) here in
    let some : nat_abs l ≡ 0 → ⊥ = eqb-false (nat_abs l) 0 zero' in
    ((omega arith, ltb-false v (nat_abs l) wide), over_unless_bad v c rest)

pub good_if_over : (v : ℕ) (c : Clause) → Over v c → any (bad_literal v) c ≡ false
good_if_over v [] h = refl
good_if_over v (l ∷ c) h =
    let (some, narrow) = h.0 in
    rw (ne_eqb (nat_abs l) 0 (λ e. omega arith), le-ltb v (nat_abs l) narrow, good_if_over v c h.1) refl

pub formula_over : (p : Problem) (rule : Rule) (horizon : ℕ) → AllByRecursion (Over (vars p horizon)) (formula p rule horizon)
formula_over p rule horizon = All-weaker (λ c. any (bad_literal (vars p horizon)) c ≡ false) (Over (vars p horizon)) (over_unless_bad (vars p horizon)) (formula p rule horizon) (formula_sized p rule horizon (vars p horizon) (omega arith))

pub sheets_are_safe_lem : SheetsAreSafe
sheets_are_safe_lem p sound rule lawful horizon lines sheet holds V o e begun turns run =
    models_are_safe_lem (formula p rule horizon) (vars p horizon) (model p horizon lines) ((formula_means_sheets_lem p sound rule lawful horizon).encodes lines sheet holds) V o e begun turns run

pub no_sheet_concludes_lem : NoSheetConcludes
no_sheet_concludes_lem p sound rule lawful horizon few none V o begun fit records-room literals_room marks long =
    no_model_concludes_lem (formula p rule horizon) (vars p horizon) few (formula_over p rule horizon)
    (λ values m. let (sheet, holds, _) = (formula_means_sheets_lem p sound rule lawful horizon).decodes values m in none (sheet_of p horizon (value values)) sheet holds)
    V o begun fit records-room literals_room marks long
