use Rattle.digest.proofs.Digested.{digested}
use Rattle.digest.proofs.batches.batch_digest.Goals as goal

pub returns : goal.returns
returns g c =
    digested (g.D.Digest.value c.args.digest.now) c.args.requests.now c.in_ok-frame.frame c.body.result.now c.digest.result c.if-requests-eq0.false c.in_ok-frame.ensures c.body.ensures c.digest.ensures
