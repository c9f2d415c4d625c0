use Rattle.std.proofs.Common.{◌≡◌, ℕ, subst, arith, rules}
use Rattle.house.specs.Members.{Numbered, New}
use Rattle.house.proofs.OneLog as proof
use Rattle.house.proofs.ByNumber.{numbered_none, numbered_more, unopened_all}
use Rattle.house.proofs.members.Members.open.Goals as goal

pub returns-in_err-map_err-clause-law : goal.returns-in_err-map_err-clause-law
returns-in_err-map_err-clause-law g c = proof.one_log_holds (g.D.Digest.value c.args.digest) g.A.Application.next g.A.Application.marked c.args.start

pub loop-own-init : goal.loop-own-init
loop-own-init g c =
    numbered_none c.new-2.result.items
    (λ own k. New c.args.n own c.args.digest c.args.start k.core k.digest k.app) c.new-2.ensures.items

pub loop-own-preserved : goal.loop-own-preserved
loop-own-preserved g c =
    numbered_more c.loop-own.members.controllers.items c.open_next.new.self.controllers.items c.loop-own.own
    (λ own k. New c.args.n own c.args.digest c.args.start k.core k.digest k.app)
    c.loop-own.invariant c.in_ok-open_next.ensures.1

pub returns-in_err-open_next-clause-law : goal.returns-in_err-open_next-clause-law
returns-in_err-open_next-clause-law g c = proof.one_log_holds (g.D.Digest.value c.args.digest) g.A.Application.next g.A.Application.marked c.args.start

pub returns : goal.returns
returns g c =
    let all : c.loop-own.own ≡ c.args.n = omega arith in
    let P : ℕ → Type 0 = λ n. Numbered c.loop-own.members.controllers.items n
    (λ own k. New c.args.n own c.args.digest c.args.start k.core k.digest k.app) in
    record {
      opened = (search rules, subst P all c.loop-own.invariant);
      law = proof.one_log_holds (g.D.Digest.value c.args.digest) g.A.Application.next g.A.Application.marked c.args.start;
    }
