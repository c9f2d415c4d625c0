-- What a call has sent.
use Rattle.std.specs.Prelude.{◌≡◌, ℕ, ◌+◌, List, ◌++◌, length, take, drop}
use Rattle.wire.specs.declared.records.Sealed.{Sealed}
use Rattle.controller.specs.declared.post.Post.{Post}

-- sent from a place of the outbox on; its other places stay
abbrev pub written_at : ℕ → List Sealed → List Sealed → List Sealed
written_at at sent outbox = take at outbox ++ (sent ++ drop (at + length sent) outbox)

-- one outbox, and more behind what it has
pub record Sent (p q : Post) (more : List Sealed) : Type 0 where
  pub same : q.outbox.ghost_name ≡ p.outbox.ghost_name
  pub sent : q.sent ≡ p.sent + length more
  pub outbox : q.outbox.now ≡ written_at p.sent more p.outbox.now
