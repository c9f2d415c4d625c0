-- The orders to the tanks, and the payloads that they stand in.
use Rattle.std.specs.Prelude.{ℕ, ◌/◌, ◌%◌, ◌^◌, cond, ◌&&◌, [], ◌∷◌, ℤ, Some, None, Option, ◌==◌}
use Rattle.std.specs.Int.{w16}
use Rattle.std.proofs.Common.{to_z, of_z}
use Rattle.application.specs.Payload.{Bytes, eight, bytes_of, payload_of_bytes, zeros, two, four}
use Rattle.tanks.specs.declared.order.TankOrder.{TankOrder}
use Rattle.tanks.specs.declared.order.TankOrder.TheVariants.{SetPoint, SetLitres, Move}

-- a number of 16 bits as two's complement, and back
abbrev pub signed : ℕ → ℤ
signed n = to_z w16 n

abbrev pub unsigned : ℤ → ℕ
unsigned z = of_z w16 z

-- b0 = 1 sets tank b1's set point to b6b7; b0 = 2 sets tank b1's litres to b4..b7; b0 = 3 moves b4..b7 litres from
-- tank b1 to tank b2; the other bytes are 0
abbrev pub read_order : Bytes → Option TankOrder
read_order b =
    cond (b.b0 == 1 && zeros (b.b2 ∷ b.b3 ∷ b.b4 ∷ b.b5 ∷ []))
    (Some (SetPoint b.b1 (signed (two b.b6 b.b7))))
    (cond (b.b0 == 2 && zeros (b.b2 ∷ b.b3 ∷ []))
    (Some (SetLitres b.b1 (four b.b4 b.b5 b.b6 b.b7)))
    (cond (b.b0 == 3 && zeros (b.b3 ∷ []))
    (Some (Move b.b1 b.b2 (four b.b4 b.b5 b.b6 b.b7)))
    None))

abbrev pub order_of : ℕ → Option TankOrder
order_of payload = read_order (bytes_of payload)

-- the bytes of an order
abbrev pub bytes_in : TankOrder → Bytes
bytes_in (SetPoint tank to) = eight 1 tank 0 0 0 0 (unsigned to / 256 % 256) (unsigned to % 256)
bytes_in (SetLitres tank litres) =
    eight 2 tank 0 0 (litres / 2 ^ 24 % 256) (litres / 2 ^ 16 % 256) (litres / 256 % 256) (litres % 256)
bytes_in (Move from to litres) =
    eight 3 from to 0 (litres / 2 ^ 24 % 256) (litres / 2 ^ 16 % 256) (litres / 256 % 256) (litres % 256)

abbrev pub payload_of : TankOrder → ℕ
payload_of o = payload_of_bytes (bytes_in o)
