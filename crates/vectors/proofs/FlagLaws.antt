-- A flag as the machine holds it: its bits are those of 0 exactly if it does not fix.
-- Assumes nothing.
use mathlib.Core.Path.{◌≡◌, refl, ap}
use mathlib.Core.Bool.{true, false, not}
use native.Mathlib.Omega.{arith}
use lib.IntN.{ℤ, pos, negsuc}
use borrow.Author.Tests.{eq-eqb, ne_eqb}
use mir.Syntax.{w32}
use mir.Val.{of_z, SFits}
use Rattle.vectors.specs.Vectors.{fixes}

pub other_bits : (flag : ℤ) → (of_z w32 flag ≡ 0 → ⊥) → fixes flag ≡ true
other_bits (pos m) nonzero = ap not (ne_eqb m 0 nonzero)
other_bits (negsuc m) nonzero = refl

pub zero_bits : (flag : ℤ) → SFits w32 flag → of_z w32 flag ≡ 0 → fixes flag ≡ false
zero_bits (pos m) small zero_is = ap not (eq-eqb m 0 zero_is)
zero_bits (negsuc m) small zero_is = absurd (omega (arith, small.sfits, zero_is))
