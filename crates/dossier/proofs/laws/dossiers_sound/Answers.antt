use Rattle.dossier.proofs.Sound.{all_accepted, dossier_sound}
use Rattle.dossier.proofs.Within.{walked_within}
use Rattle.dossier.proofs.laws.dossiers_sound.Goals as goal

pub returns : goal.returns
returns c = record { accepted = all_accepted; sound = dossier_sound; within = walked_within }
