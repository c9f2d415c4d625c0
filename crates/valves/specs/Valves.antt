-- The valves as an application.
use Rattle.std.specs.Prelude.{ℕ, ◌≤◌, cond, replicate, Some, None, Option, nat_lt, slice_index, refl}
use Rattle.std.proofs.Common.{lit≤}
use Rattle.application.proofs.Each.{each_replicate}
use Rattle.digest.specs.Fnv.{fnv1a}
use Rattle.valves.specs.declared.book.Book.{Book}
use Rattle.valves.specs.declared.state.Valves.{Valves}
use Rattle.valves.specs.Book.{code_of, carried_out}
use Rattle.valves.specs.Keeps.{Sound, keeps}
use Rattle.valves.specs.Mark.{book_bytes}
use Rattle.valves.specs.Orders.{order_of}

-- at the start each client has 10,000 units, the plant has none, and all valves are shut
abbrev pub first_book : Book
first_book = record { accounts = replicate 32 10000; plant = 0; openings = replicate 64 0 }

abbrev pub sound : (v : Valves) → Sound v.book
sound v = record { long = v.long; whole = v.whole; within = v.within }

abbrev pub valves_of : (b : Book) → Sound b → Valves
valves_of b h = record { book = b; long = h.long; whole = h.whole; within = h.within }

unfoldable pub new_valves : Valves
new_valves =
    valves_of first_book
    (record { long = refl; whole = refl; within = each_replicate (λ x. x ≤ 1000) 64 0 0 (lit≤ tt) (lit≤ tt) })

-- the valves after an order of a client
unfoldable pub after : Valves → ℕ → ℕ → ℕ → Valves
after v client timestamp payload =
    valves_of (carried_out v.book client (order_of payload)) (keeps v.book client (order_of payload) (sound v))

unfoldable pub answer : Valves → ℕ → ℕ → ℕ → ℕ
answer v client timestamp payload = code_of v.book client (order_of payload)

abbrev pub mark_of : Valves → ℕ
mark_of v = fnv1a (book_bytes v.book)

-- what can be read of the valves
abbrev pub account_at : Valves → ℕ → Option ℕ
account_at v client = cond (nat_lt 31 client) None (Some (slice_index v.book.accounts client))

abbrev pub plant_of : Valves → ℕ
plant_of v = v.book.plant

abbrev pub opening_at : Valves → ℕ → Option ℕ
opening_at v valve = cond (nat_lt 63 valve) None (Some (slice_index v.book.openings valve))
