use Rattle.std.proofs.Common.{sym, ◌∙◌}
use Rattle.seal.proofs.Rolls.{listed_more, listed_found, listed_all}
use Rattle.seal.proofs.roll.contains.Goals as goal

pub returns-then-is_entry : goal.returns-then-is_entry
returns-then-is_entry c =
    sym (listed_found _ _ _ _ _ c.loop-entry-test.true (sym c.if-is_entry.ensures)) ∙ c.loop-entry.invariant

pub loop-entry-preserved : goal.loop-entry-preserved
loop-entry-preserved c =
    listed_more _ _ _ _ _ c.loop-entry-test.true (sym c.if-is_entry.ensures) ∙ c.loop-entry.invariant

pub returns : goal.returns
returns c = sym (listed_all _ _ _ _ c.loop-entry-test.false) ∙ c.loop-entry.invariant
