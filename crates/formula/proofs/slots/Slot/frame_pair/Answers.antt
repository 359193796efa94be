use Rattle.std.proofs.Common.{◌≡◌, suc, [], ◌∷◌, pos, neg_ℤ, Ok, refl, ap, ◌∙◌, add-one, w32, SFits, rules}
use Rattle.std.proofs.lemmas.Result.{err_from_is_err_and}
use Rattle.rules.specs.Problems.{steps_of}
use Rattle.rules.specs.Formula.{fact_var, comes, goes}
use Rattle.problem.specs.declared.part.Part.TheVariants.{Sets, Clears}
use Rattle.problem.specs.Tables.{means}
use Rattle.formula.specs.Effects.{doers}
use Rattle.formula.specs.Visits.{Shown}
use Rattle.formula.proofs.Visiting.{visits_then, visits_stop, visits_one}
use Rattle.formula.proofs.Frames.{word_is, heads_is}
use Rattle.formula.proofs.slots.Slot.frame_pair.Goals as goal

pub returns : goal.returns
returns g c =
    let one = Shown g.F.Fn c.args.visit.now in
    let p = means c.args.self.now.table.now in
    let u = c.args.self.now.before in
    let f = c.args.f in
    let s : SFits w32 c.aye.result = search rules in
    let t : SFits w32 c.nay.result = search rules in
    let x : SFits w32 c.nay-2.result = search rules in
    let y : SFits w32 c.aye-2.result = search rules in
    let here = c.fact_before-before.ensures.value in
    let next : c.fact_after-after.result ≡ fact_var p (suc u) f = c.fact_after-after.ensures.value ∙ ap (λ n. fact_var p n f) (add-one u) in
    let is = heads_is _ _ _ _ (doers p Sets u f (steps_of p)) _ refl (word_is _ _ s (c.aye.ensures.positive ∙ ap pos here)) (word_is _ _ t (c.nay.ensures.negative ∙ ap (λ n. neg_ℤ (pos n)) next)) in
    let js = heads_is _ _ _ _ (doers p Clears u f (steps_of p)) _ refl (word_is _ _ x (c.nay-2.ensures.negative ∙ ap (λ n. neg_ℤ (pos n)) here)) (word_is _ _ y (c.aye-2.ensures.positive ∙ ap pos next)) in
    record {
      visits_pair =
          visits_then one (comes p u f ∷ []) (goes p u f ∷ []) _ _ _ _
          (visits_one one _ _ _ _ (Ok tt) is c.in_ok-frame_clause.ensures.explains_change)
          (visits_one one _ _ _ _ _ js c.frame_clause-2.ensures.explains_change);
    }

pub returns-in_err-frame_clause : goal.returns-in_err-frame_clause
returns-in_err-frame_clause g c =
    let one = Shown g.F.Fn c.args.visit.now in
    let p = means c.args.self.now.table.now in
    let u = c.args.self.now.before in
    let f = c.args.f in
    let s : SFits w32 c.aye.result = search rules in
    let t : SFits w32 c.nay.result = search rules in
    let next : c.fact_after-after.result ≡ fact_var p (suc u) f = c.fact_after-after.ensures.value ∙ ap (λ n. fact_var p n f) (add-one u) in
    let is = heads_is _ _ _ _ (doers p Sets u f (steps_of p)) _ refl (word_is _ _ s (c.aye.ensures.positive ∙ ap pos c.fact_before-before.ensures.value)) (word_is _ _ t (c.nay.ensures.negative ∙ ap (λ n. neg_ℤ (pos n)) next)) in
    let e = err_from_is_err_and c.from_residual.result c.from_residual.ensures.1 in
    record { visits_pair = rw (e.1, e.2) (visits_stop one (comes p u f ∷ []) (goes p u f ∷ []) _ _ _ (visits_one one _ _ _ _ _ is c.in_err-frame_clause.ensures.explains_change)) }
