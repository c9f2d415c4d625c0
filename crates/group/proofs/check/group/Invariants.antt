use Rattle.std.proofs.Common.{◌≡◌, ◌+◌, ◌-◌, ◌≤◌, drop}
use Rattle.group.specs.Group.{grouped}
use Rattle.group.proofs.check.group.Given as goal

-- what is left decides
abbrev pub invariant-loop-i : goal.invariant-loop-i
invariant-loop-i g l =
    let names = g.T.Signed.names in
    let allows = g.R.Rule.allows l.rule in
    (l.least ≤ l.threshold.n)
    × (grouped names allows l.threshold.n (l.threshold.q - l.i) (l.from + l.i) l.least (drop l.i l.rest) ≡ grouped names allows l.threshold.n l.threshold.q l.from 0 (drop l.from l.list))
