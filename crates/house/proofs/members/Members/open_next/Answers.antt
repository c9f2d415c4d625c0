use Rattle.std.proofs.Common.{rules}
use Rattle.house.proofs.members.Members.open_next.Goals as goal

pub returns : goal.returns
returns g c =
    let told = c.in_ok-member.ensures in
    (told.0, (c.in_ok-member.member, (search rules, record { size = told.1; number = told.2; fresh = told.3; digests = told.4; starts = told.5 })))
