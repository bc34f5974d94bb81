-- `value_of` meets its promise: a pattern above plus infinity's is a NaN's, and 0 / 0 makes one.
-- Assumes nothing.
use mathlib.Core.Path.{sym}
use lib.Ieee.{div, of_bits}
use Rattle.words.proofs.NanLaws.{reads_nan, reads_no_nan}
use Rattle.words.proofs.value_of.Goals as goal

pub returns-then-bits-gt9218868437227405312 : goal.returns-then-bits-gt9218868437227405312
unfolding div of_bits
returns-then-bits-gt9218868437227405312 c = sym (reads_nan c.args.bits c.if-bits-gt9218868437227405312.true)

pub float_from_bits-result : goal.float_from_bits-result
float_from_bits-result c = reads_no_nan c.args.bits c.if-bits-gt9218868437227405312.false
