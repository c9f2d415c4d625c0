use Rattle.std.proofs.Common.{◌≡◌, ◌+◌, ◌≤◌, length, take, sym, ◌∙◌, subst, arith}
use Rattle.table.specs.declared.records.Votes.{Votes}
use Rattle.table.specs.Ballots.{backers_from, listed}
use Rattle.table.proofs.Backing.{one_joined, none_joined}
use Rattle.table.proofs.records.Ballots.backers.Goals as goal
use Rattle.table.proofs.records.Ballots.backers.Goals.{in-Some, in_default}

pub loop-signer-preserved : goal.loop-signer-preserved
loop-signer-preserved c =
    let d = c.args.digest.now in
    let xs = c.args.self.now.of in
    let i = c.loop-signer.signer in
    let Kept : Votes → Type 0 = λ v. (v ≡ listed (backers_from d 0 (take (i + 1) xs))) × (length (backers_from d 0 (take (i + 1) xs)) ≤ i + 1) in
    elim c.match-vote_for.branch [
      | in-Some w ↦ subst Kept (sym w.votes-is)
          (one_joined d xs i c.loop-signer.votes (omega arith) c.loop-signer-test.true c.loop-signer.invariant.0 c.loop-signer.invariant.1 w.in-Some.vote w.push.new.self (sym w.in-Some.ensures) w.push.ensures)
      | in_default w ↦ subst Kept (sym w.votes-is)
          (none_joined d xs i c.loop-signer.votes (omega arith) c.loop-signer-test.true c.loop-signer.invariant.0 c.loop-signer.invariant.1 (sym c.vote_for.ensures ∙ w.in_default.is))
    ]
