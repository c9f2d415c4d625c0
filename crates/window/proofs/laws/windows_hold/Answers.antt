use Rattle.window.proofs.Seen.{mark_adds, free_unseen, else_unchanged}
use Rattle.window.proofs.History.{seen_marked}
use Rattle.window.proofs.laws.windows_hold.Goals as goal

pub returns : goal.returns
returns c = record { adds = mark_adds; unseen = free_unseen; unchanged = else_unchanged; history = seen_marked }
