use Rattle.rules.proofs.Confluence.{forced_in_any_order_lem}
use Rattle.rules.proofs.propagation_laws.forced_in_any_order.Goals as goal

pub returns : goal.returns
returns c = record { forcing_order_is_free = forced_in_any_order_lem }
