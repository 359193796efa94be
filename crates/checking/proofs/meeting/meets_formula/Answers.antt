use Rattle.std.proofs.Common.{Bool, MatchBool, sym, subst, rules}
use Rattle.rules.specs.Clauses.{Satisfies, value}
use Rattle.rules.specs.Formula.{formula}
use Rattle.problem.specs.Tables.{means}
use Rattle.checking.specs.Told.{told}
use Rattle.checking.proofs.Telling.{visited_by}
use Rattle.checking.proofs.meeting.meets_formula.Goals as goal

pub returns : goal.returns
returns g c =
    let bytes = c.args.truth.now in
    let cs = formula (means c.args.formula.now.table) (g.R.SlotRule.parts c.args.formula.now.rule.now) c.args.formula.now.horizon in
    let v = visited_by bytes _ _ (λ a b c r h. search rules) cs _ _ _ c.each_clause.ensures.visits_formula in
    record { answers_satisfaction = subst (λ (b : Bool). MatchBool b (Satisfies (value (told bytes)) cs) (Satisfies (value (told bytes)) cs → ⊥)) (sym c.is_ok.ensures.value) v }
