-- The bytes of a book: 32 accounts and the plant of four bytes each, then 64 openings of two, 260 in all.
use Rattle.std.specs.Prelude.{ℕ, List, ◌++◌}
use Rattle.std.specs.List.{flat_map}
use Rattle.application.specs.Payload.{bytes2, bytes4}
use Rattle.valves.specs.declared.book.Book.{Book}

abbrev pub book_bytes : Book → List ℕ
book_bytes b = flat_map bytes4 b.accounts ++ (bytes4 b.plant ++ flat_map bytes2 b.openings)
