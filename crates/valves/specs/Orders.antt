-- The orders to the valves, and the payloads that they stand in.
use Rattle.std.specs.Prelude.{ℕ, ◌/◌, ◌%◌, ◌^◌, cond, ◌&&◌, [], ◌∷◌, Some, None, Option, ◌==◌}
use Rattle.application.specs.Payload.{Bytes, eight, bytes_of, payload_of_bytes, zeros, two, four}
use Rattle.valves.specs.declared.order.ValveOrder.{ValveOrder}
use Rattle.valves.specs.declared.order.ValveOrder.TheVariants.{Open, Pay}

-- b0 = 1 opens valve b1 to b6b7; b0 = 2 pays b4..b7 units to client b1; the other bytes are 0
abbrev pub read_order : Bytes → Option ValveOrder
read_order b =
    cond (b.b0 == 1 && zeros (b.b2 ∷ b.b3 ∷ b.b4 ∷ b.b5 ∷ []))
    (Some (Open b.b1 (two b.b6 b.b7)))
    (cond (b.b0 == 2 && zeros (b.b2 ∷ b.b3 ∷ []))
    (Some (Pay b.b1 (four b.b4 b.b5 b.b6 b.b7)))
    None)

abbrev pub order_of : ℕ → Option ValveOrder
order_of payload = read_order (bytes_of payload)

-- the bytes of an order
abbrev pub bytes_in : ValveOrder → Bytes
bytes_in (Open valve opening) = eight 1 valve 0 0 0 0 (opening / 256 % 256) (opening % 256)
bytes_in (Pay to units) =
    eight 2 to 0 0 (units / 2 ^ 24 % 256) (units / 2 ^ 16 % 256) (units / 256 % 256) (units % 256)

abbrev pub payload_of : ValveOrder → ℕ
payload_of o = payload_of_bytes (bytes_in o)
