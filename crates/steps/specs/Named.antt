-- The slot rules by name and by number.
use Rattle.std.specs.Prelude.{◌≡◌, ℕ, Ok, Err, Result, ◌≢◌}
use Rattle.rules.specs.declared.refusal.Refusal.{Refusal}
use Rattle.rules.specs.declared.refusal.Refusal.TheVariants.{BadRequest}
use Rattle.rules.specs.Steps.{Rule, single, parallel}
use Rattle.steps.specs.declared.rule_name.RuleName.{RuleName}
use Rattle.steps.specs.declared.rule_name.RuleName.TheVariants.{Single, Parallel}

abbrev pub rule_named : RuleName → Rule
rule_named Single = single
rule_named Parallel = parallel

abbrev pub number_of : RuleName → ℕ
number_of Single = 1
number_of Parallel = 2

-- the rule of this number, or a refusal where no rule has it
abbrev pub NamesRule : ℕ → Result RuleName Refusal → Type 0
NamesRule n (Ok rule) = number_of rule ≡ n
NamesRule n (Err refusal) = (refusal ≡ BadRequest) × ((rule : RuleName) → number_of rule ≢ n)
