-- `root::positive_root` meets its contract. Each way out is a law of `proofs/Cases.antt`.
-- Assumes nothing.
use mathlib.Core.Path.{sym, subst}
use lib.Dec.{T}
use lib.Ieee.{binary64, fits}
use Rattle.root.proofs.Cases.{no_nan, bits_above_zero, no_nan_bits, answer_bits, answer_infinity}
use Rattle.root.proofs.positive_root.Goals.{Start}
use Rattle.root.proofs.positive_root.Goals as goal

-- what owning an `f64` tells: the format holds it
held : (c : Start) → T (fits binary64 c.args.x)
held c = subst T (sym c.well_formed.0.1) tt

pub float_to_bits-bits : goal.float_to_bits-bits
float_to_bits-bits c = no_nan c.args.x c.requires

pub returns-then-bits-ge-INFINITY : goal.returns-then-bits-ge-INFINITY
returns-then-bits-ge-INFINITY c = answer_infinity c.args.x (held c.before) c.requires c.if-bits-ge-INFINITY.true

pub root_bits-requires : goal.root_bits-requires
root_bits-requires c = (bits_above_zero c.args.x (held c.before) c.requires, c.if-bits-ge-INFINITY.false)

pub float_from_bits-result : goal.float_from_bits-result
float_from_bits-result c =
    no_nan_bits c.args.x (held c.before.before) c.requires c.root_bits.result c.if-bits-ge-INFINITY.false c.root_bits.ensures

pub returns : goal.returns
returns c =
    answer_bits c.args.x (held c.before.before) c.requires c.root_bits.result c.if-bits-ge-INFINITY.false c.root_bits.ensures
