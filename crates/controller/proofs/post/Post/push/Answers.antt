use Rattle.std.proofs.Common.{refl}
use Rattle.controller.proofs.Posts.{written_one}
use Rattle.controller.proofs.post.Post.push.Goals as goal

pub returns : goal.returns
returns c = record { same = refl; sent = refl; outbox = written_one c.args.self.now.sent c.args.sealed c.args.self.now.outbox.now c.requires }
