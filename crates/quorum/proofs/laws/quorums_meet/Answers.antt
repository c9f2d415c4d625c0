use Rattle.quorum.proofs.Counting.{quorums_overlap, quorums_meet, quorum_honest}
use Rattle.quorum.proofs.laws.quorums_meet.Goals as goal

pub returns : goal.returns
returns c = record { overlap = quorums_overlap; meet = quorums_meet; honest = quorum_honest }
