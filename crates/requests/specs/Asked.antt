-- What the two numbers before a problem come to.
use Rattle.std.specs.Prelude.{◌≡◌, ℕ, List, Ok, Err, Result, ◌≢◌}
use Rattle.rules.specs.declared.refusal.Refusal.{Refusal}
use Rattle.rules.specs.Refusals.{number}
use Rattle.requests.specs.declared.request.Request.{Request}
use Rattle.steps.specs.Named.{number_of}
use Rattle.requests.specs.Written.{horizon, rule_number, request_verdict}

-- granted, T and the rule as they stand; refused, the first check that fails
abbrev pub RequestChecked : List ℕ → Result Request Refusal → Type 0
RequestChecked s (Ok q) = (request_verdict s ≡ 0) × (q.horizon ≡ horizon s) × (number_of q.rule ≡ rule_number s)
RequestChecked s (Err e) = (number e ≡ request_verdict s) × (request_verdict s ≢ 0)
