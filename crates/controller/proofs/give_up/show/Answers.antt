use Rattle.std.proofs.Common.{arith}
use Rattle.controller.proofs.Tells.{show_made, proof_few}
use Rattle.controller.proofs.give_up.show.Goals as goal

pub returns : goal.returns
returns c =
    let self = c.args.core.now in
    let few = proof_few self.table c.as_slice-proof.result.now c.as_slice-proof.ensures c.requires.sound.2 in
    show_made self.table c.as_slice-proof.result.now c.args.post.now c.show_votes.new.post c.show_certificates.new.post c.as_slice-proof.ensures (omega (arith, few, c.requires.room)) c.show_votes.ensures c.show_certificates.ensures
