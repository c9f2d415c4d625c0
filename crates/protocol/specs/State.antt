-- A controller at its start, and changes of parts of it.
use Rattle.std.specs.Prelude.{ℕ, false, None}
use Rattle.quorum.specs.declared.house.House.{House}
use Rattle.quorum.specs.Sizes.{quorum}
use Rattle.table.specs.declared.records.Table.{Table}
use Rattle.table.specs.Window.{new_table}
use Rattle.window.specs.Clients.{all_fresh}
use Rattle.protocol.specs.declared.records.View.{View}
use Rattle.protocol.specs.declared.records.Core.{Core}
use Rattle.protocol.specs.Leaders.{everyone}

-- epoch 1 with all as leaders, from number 1 on without an end; nothing delivered, stable, filled or marked
abbrev pub new_view : ℕ → View
new_view n = record { epoch = 1; changing = false; leaders = everyone n; first = 1; last = None }

abbrev pub new_core : House → Core
new_core h = record { house = h; view = new_view h.n; table = new_table; delivered = 0; windows = all_fresh }

abbrev pub size : Core → ℕ
size c = c.house.n

abbrev pub own : Core → ℕ
own c = c.house.own

abbrev pub enough : Core → ℕ
enough c = quorum c.house.n

abbrev pub with_table : Core → Table → Core
with_table c t = record { house = c.house; view = c.view; table = t; delivered = c.delivered; windows = c.windows }

abbrev pub with_view : Core → View → Table → Core
with_view c v t = record { house = c.house; view = v; table = t; delivered = c.delivered; windows = c.windows }

-- no number above this is proposed, proved or made stable
abbrev pub limit : ℕ
limit = 1000000000000
