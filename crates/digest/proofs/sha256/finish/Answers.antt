use Rattle.digest.proofs.Blocks.{finished_in_one, finished_in_two}
use Rattle.digest.proofs.sha256.finish.Goals as goal

pub returns-then-rest-lt56 : goal.returns-then-rest-lt56
returns-then-rest-lt56 c =
    finished_in_one c.args.hash.now c.args.rest.now c.args.bits c.put.new.dest c.to_be_bytes.result
    c.put-then-rest-lt56.new.dest c.compress.result c.if-rest-lt56.true c.put.ensures c.to_be_bytes.ensures
    c.put-then-rest-lt56.ensures c.compress.ensures

pub returns : goal.returns
returns c =
    finished_in_two c.args.hash.now c.args.rest.now c.args.bits c.put.new.dest c.to_be_bytes-2.result
    c.put-2.new.dest c.compress-2.result c.compress-3.result c.if-rest-lt56.false c.requires c.put.ensures
    c.to_be_bytes-2.ensures c.put-2.ensures c.compress-2.ensures c.compress-3.ensures
