-- The windows of the 32 clients, 0 to 31.
use Rattle.std.specs.Prelude.{ℕ, Bool, cond, ◌&&◌, replicate, Some, None, Option, nat_le, slice_index_or, slice_set}
use Rattle.window.specs.declared.window.Window.{Window}
use Rattle.window.specs.declared.windows.Windows.{Windows}
use Rattle.window.specs.Spans.{free}
use Rattle.window.specs.Marked.{after, fresh}

-- nothing was applied of any client
abbrev pub all_fresh : Windows
all_fresh = record { clients = replicate 32 fresh }

-- the window of a client
abbrev pub window_of : Windows → ℕ → Window
window_of ws client = slice_index_or ws.clients client fresh

abbrev pub window_at : Windows → ℕ → Option Window
window_at ws client = cond (nat_le client 31) (Some (window_of ws client)) None

-- a request is admitted if its client is one of the 32 and its timestamp is free there
abbrev pub admits : Windows → ℕ → ℕ → Bool
admits ws client t = nat_le client 31 && free (window_of ws client).span t

-- a client's timestamp is marked in that client's window; a client above 31 changes nothing
abbrev pub marks : Windows → ℕ → ℕ → Windows
marks ws client t = cond (nat_le client 31) (record { clients = slice_set ws.clients client (after (window_of ws client) t) }) ws
