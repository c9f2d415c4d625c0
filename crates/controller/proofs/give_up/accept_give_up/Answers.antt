use Rattle.std.proofs.Common.{map, refl}
use Rattle.protocol.specs.Call.{unsealed}
use Rattle.protocol.specs.Change.{evidence}
use Rattle.controller.specs.Agree.{told}
use Rattle.controller.proofs.Posts.{sent_more}
use Rattle.controller.proofs.Tells.{told_long, told_room}
use Rattle.controller.proofs.give_up.accept_give_up.Goals as goal

pub show-requires-clause-room : goal.show-requires-clause-room
show-requires-clause-room c =
    (told_room c.args.core.now c.args.epoch c.args.post.now c.tell.new.post c.tell.ensures.long c.requires.room c.tell.ensures.sent).1

pub returns-clause-long : goal.returns-clause-long
returns-clause-long c = told_long c.args.core.now c.args.epoch c.tell.ensures.long

pub returns-clause-post : goal.returns-clause-post
returns-clause-post c =
    let self = c.args.core.now in
    let room = told_room self c.args.epoch c.args.post.now c.tell.new.post c.tell.ensures.long c.requires.room c.tell.ensures.sent in
    sent_more c.args.post.now c.tell.new.post c.show.new.post (map unsealed (told self c.args.epoch)) (evidence self.table) _ refl room.0 c.tell.ensures.sent c.show.ensures
