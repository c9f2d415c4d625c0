use Rattle.house.proofs.OneLog as proof
use Rattle.house.proofs.law.one_log_holds.Goals as goal

pub returns : goal.returns
returns g c = proof.one_log_holds (g.D.Digest.value c.args.digest.now) g.A.Application.next g.A.Application.marked c.args.start.now
