use Rattle.rules.proofs.Orders.{any_order}
use Rattle.rules.proofs.laws.any_order.Goals as goal

pub returns : goal.returns
returns c = record { order_is_free = any_order }
