-- What an order does to the book: a code, and the book after it.
use Rattle.std.specs.Prelude.{ℕ, ◌+◌, ◌-◌, cond, ◌||◌, Some, None, Option, ◌==◌, nat_lt, slice_index, slice_set}
use Rattle.application.specs.Codes.{done, unknown, bad_place, bad_value, bad_amount}
use Rattle.valves.specs.declared.book.Book.{Book}
use Rattle.valves.specs.declared.order.ValveOrder.{ValveOrder}
use Rattle.valves.specs.declared.order.ValveOrder.TheVariants.{Open, Pay}

abbrev pub account : Book → ℕ → ℕ
account b client = slice_index b.accounts client

-- what can be read of the book
abbrev pub read_account : Book → ℕ → Option ℕ
read_account b client = cond (nat_lt 31 client) None (Some (account b client))

abbrev pub read_opening : Book → ℕ → Option ℕ
read_opening b valve = cond (nat_lt 63 valve) None (Some (slice_index b.openings valve))

-- opening a valve costs the absolute change of its opening
abbrev pub price : Book → ℕ → ℕ → ℕ
price b valve opening = (slice_index b.openings valve - opening) + (opening - slice_index b.openings valve)

abbrev pub code_of_open : Book → ℕ → ℕ → ℕ → ℕ
code_of_open b client valve opening =
    cond (nat_lt 63 valve || nat_lt 31 client) bad_place
    (cond (nat_lt 1000 opening) bad_value
    (cond (nat_lt (account b client) (price b valve opening)) bad_amount
    done))

abbrev pub opened : Book → ℕ → ℕ → ℕ → Book
opened b client valve opening = record {
  accounts = slice_set b.accounts client (account b client - price b valve opening);
  plant = b.plant + price b valve opening;
  openings = slice_set b.openings valve opening;
}

abbrev pub code_of_pay : Book → ℕ → ℕ → ℕ → ℕ
code_of_pay b client to units =
    cond (nat_lt 31 to || (nat_lt 31 client || to == client)) bad_place
    (cond (nat_lt (account b client) units) bad_amount
    done)

abbrev pub paid : Book → ℕ → ℕ → ℕ → Book
paid b client to units = record {
  accounts = slice_set (slice_set b.accounts client (account b client - units)) to (account b to + units);
  plant = b.plant;
  openings = b.openings;
}

-- the code of an order
abbrev pub code_of : Book → ℕ → Option ValveOrder → ℕ
code_of b client None = unknown
code_of b client (Some (Open valve opening)) = code_of_open b client valve opening
code_of b client (Some (Pay to units)) = code_of_pay b client to units

-- the book after an order: any code but 0 changes nothing
abbrev pub if_done : ℕ → Book → Book → Book
if_done code new old = cond (code == done) new old

abbrev pub carried_out : Book → ℕ → Option ValveOrder → Book
carried_out b client None = b
carried_out b client (Some (Open valve opening)) = if_done (code_of_open b client valve opening) (opened b client valve opening) b
carried_out b client (Some (Pay to units)) = if_done (code_of_pay b client to units) (paid b client to units) b
