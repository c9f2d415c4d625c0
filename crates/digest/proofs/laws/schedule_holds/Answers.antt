use Rattle.digest.proofs.Theorems.{first_words, recurrence}
use Rattle.digest.proofs.laws.schedule_holds.Goals as goal

pub returns : goal.returns
returns c = record { first_words = first_words; recurrence = recurrence }
