use Rattle.window.proofs.Joining.{delivers, delivery_joins}
use Rattle.window.proofs.laws.deliveries_hold.Goals as goal

pub returns : goal.returns
returns g c = record { delivers = delivers g.P.Application.next; joins = delivery_joins g.P.Application.next }
