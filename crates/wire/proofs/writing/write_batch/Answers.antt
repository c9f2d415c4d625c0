use Rattle.std.proofs.Common.{◌+◌, ◌*◌, length, arith}
use Rattle.wire.proofs.Puts.{batch_written, batch_given}
use Rattle.wire.proofs.writing.write_batch.Goals as goal

pub returns : goal.returns
returns c =
    let rs = c.args.requests.now in
    let bytes = batch_written 341 rs c.batch_head.result c.put.new.dest c.put_requests.new.bytes (omega arith) c.batch_head.ensures c.put.ensures c.put_requests.ensures in
    batch_given rs _ c.if-count-gt16.false (λ i. record { length = 5 + 21 * length rs; bytes = bytes i })
