use Rattle.std.proofs.Common.{sym, ◌∙◌}
use Rattle.wire.specs.Frames.{no_request}
use Rattle.protocol.proofs.Known.{bad_found, bad_more, bad_none}
use Rattle.protocol.proofs.records.Core.first_bad.Goals as goal

pub returns-then-is_bad : goal.returns-then-is_bad
returns-then-is_bad g c =
    sym (bad_found (g.C.SealChecker.accepts c.args.checker.now) (g.D.Digest.value c.args.digest.now) c.args.self.now c.args.s c.args.requests.now
    c.loop-i.i no_request c.loop-i-test.true (sym c.if-is_bad.ensures))
    ∙ c.loop-i.invariant

pub loop-i-preserved : goal.loop-i-preserved
loop-i-preserved g c =
    bad_more (g.C.SealChecker.accepts c.args.checker.now) (g.D.Digest.value c.args.digest.now) c.args.self.now c.args.s c.args.requests.now
    c.loop-i.i no_request c.loop-i-test.true (sym c.if-is_bad.ensures)
    ∙ c.loop-i.invariant

pub returns : goal.returns
returns g c =
    sym (bad_none (g.C.SealChecker.accepts c.args.checker.now) (g.D.Digest.value c.args.digest.now) c.args.self.now c.args.s c.args.requests.now
    c.loop-i.i c.loop-i-test.false)
    ∙ c.loop-i.invariant
