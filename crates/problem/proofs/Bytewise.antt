-- Bytes that are read are below 256, so the law on renderings speaks of them.
use Rattle.std.proofs.Common.{◌≡◌, ℕ, suc, ◌<◌, List, [], ◌∷◌, get_or, arith}
use Rattle.std.specs.List.{AllByRecursion}
use Rattle.rules.specs.declared.refusal.Refusal.{Refusal}
use Rattle.rules.specs.Refusals.{number}
use Rattle.problem.specs.Verdict.{verdict}
use Rattle.problem.specs.Rendering.{Renders}
use Rattle.problem.proofs.Refused.{refused}
use Rattle.problem.proofs.Rendered.{granted_is_rendering_lem}

pub all_bytes : (s : List ℕ) → ((i : ℕ) → get_or s i 0 < 256) → AllByRecursion (λ b. b < 256) s
all_bytes [] h = tt
all_bytes (b ∷ s) h = (h 0, all_bytes s (λ i. h (suc i)))

module _ (s : List ℕ) (h : (i : ℕ) → get_or s i 0 < 256) where
  pub granted_renders : verdict s ≡ 0 → Renders s
  granted_renders v = (granted_is_rendering_lem s (all_bytes s h)).0 v

  pub refused_renders_not : (e : Refusal) → number e ≡ verdict s → Renders s → ⊥
  refused_renders_not e v r = let z : verdict s ≡ 0 = (granted_is_rendering_lem s (all_bytes s h)).1 r in refused e (omega (arith, v, z))
