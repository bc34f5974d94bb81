-- `bits_of` meets its promise: what differs from itself is the NaN, and every other value has its own bits.
-- Assumes nothing.
use lib.Ieee.{to_bits}
use Rattle.words.proofs.NanLaws.{nan_of, not_nan}
use Rattle.words.proofs.bits_of.Goals as goal

pub returns-then-x : goal.returns-then-x
unfolding to_bits
returns-then-x c = rw (nan_of c.args.x c.if-x.true)

pub float_to_bits-result : goal.float_to_bits-result
float_to_bits-result c = not_nan c.args.x c.if-x.false
