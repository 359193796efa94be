use Rattle.problem.proofs.Rendered.{granted_is_rendering_lem}
use Rattle.problem.proofs.laws.granted_is_rendering.Goals as goal

pub returns : goal.returns
returns c = record { granted_exactly_renderings = granted_is_rendering_lem }
