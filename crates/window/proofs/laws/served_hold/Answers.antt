use Rattle.window.proofs.Serving.{fresh_full, stays_full, served_once, served_stands, served_ranges, seen_grows, seen_served}
use Rattle.window.proofs.Joining.{served_joins}
use Rattle.window.proofs.laws.served_hold.Goals as goal

pub returns : goal.returns
returns c = record {
  full = fresh_full;
  stays = stays_full;
  once = served_once;
  stands = served_stands;
  ranges = served_ranges;
  grows = seen_grows;
  seen = seen_served;
  joins = served_joins;
}
