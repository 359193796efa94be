-- A step record carried out is the step of a problem carried out.
use Rattle.std.proofs.Common.{not, ◌&&◌, ◌||◌, Some, None, Option, sym, ap, ◌∙◌, subst}
use Rattle.rules.specs.Lists.{In, has}
use Rattle.rules.specs.Steps.{Step}
use Rattle.rules.proofs.Tests.{has_in, in_has}
use Rattle.steps.specs.declared.fact_set.FactSet.{FactSet}
use Rattle.steps.specs.declared.step_record.StepRecord.{StepRecord}
use Rattle.steps.specs.Sets.{facts_in}
use Rattle.carrying.specs.Carried.{state_of, Carried, CarriesStep}

pub carries_step : (r : StepRecord) (s : FactSet) (e : Option FactSet) → Carried r s e → CarriesStep r s e
carries_step r s (Some e) (finds, is) p a m = (
  λ f i. finds f (in_has f (facts_in r.needs) (subst (In f) (sym (ap (λ (x : Step). x.needs) m)) i)),
  λ f. sym (is f ∙ ap (λ (x : Step). state_of s f && not (has f x.clears) || has f x.sets) m),
)
carries_step r s None none p a m = λ finds. none (λ f h. finds f (subst (In f) (ap (λ (x : Step). x.needs) m) (has_in f (facts_in r.needs) h)))
