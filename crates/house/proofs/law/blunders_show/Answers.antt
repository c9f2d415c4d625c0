use Rattle.house.proofs.Blunders as proof
use Rattle.house.proofs.law.blunders_show.Goals as goal

pub returns : goal.returns
returns c = proof.blunders_show
