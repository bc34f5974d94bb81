-- `unchecked::kept_by` meets its promise, on its two ways out.
-- Assumes nothing.
use Rattle.vectors.proofs.FlagLaws.{other_bits, zero_bits}
use Rattle.vectors.proofs.unchecked.kept_by.Goals as goal

pub returns-then-flag-ne0 : goal.returns-then-flag-ne0
returns-then-flag-ne0 c = rw (other_bits c.args.flag c.if-flag-ne0.true)

pub returns : goal.returns
returns c = rw (zero_bits c.args.flag c.ranges.flag c.if-flag-ne0.false)
