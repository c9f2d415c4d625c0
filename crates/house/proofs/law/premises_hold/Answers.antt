use Rattle.house.proofs.Example as proof
use Rattle.house.proofs.law.premises_hold.Goals as goal

pub returns : goal.returns
returns c = proof.premises_hold
