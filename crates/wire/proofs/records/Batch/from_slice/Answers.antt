use Rattle.wire.proofs.Puts.{batch_stored}
use Rattle.wire.proofs.records.Batch.from_slice.Goals as goal

pub returns : goal.returns
returns c = batch_stored c.args.requests.now c.place_first.new.places c.if-count-gt16.false c.place_first.ensures
