-- A flag as the machine holds it: its bits are other than 0 exactly if it fixes. And what it means that no flag of a row does.
-- Assumes nothing.
use mathlib.Core.Path.{◌≡◌, refl, ap}
use mathlib.Core.Logic.{⊎_elim}
use mathlib.Core.Bool.{Bool, false, not}
use Prim.Native.Nat.{ℕ, zero, suc, ◌<◌}
use native.Mathlib.Nat.{not-suc-le-zero, le_of_suc-le-suc, eq-or-lt_of_le}
use native.Mathlib.Omega.{arith}
use lib.Dec.{eqb}
use lib.IntN.{ℤ, pos, negsuc}
use borrow.Author.Tests.{ne_eqb}
use mir.Syntax.{w32}
use mir.Val.{of_z, SFits}
use Rattle.base.proofs.All.{or_left, or_right}
use Rattle.vectors.specs.Vectors.{fixes}
use Rattle.fixing.specs.Steps.{any_to}

pub bits_fix : (flag : ℤ) → SFits w32 flag → not (eqb (of_z w32 flag) 0) ≡ fixes flag
bits_fix (pos m) small = refl
bits_fix (negsuc m) small = ap not (ne_eqb (of_z w32 (negsuc m)) 0 (λ zero_is. absurd (omega (arith, small.sfits, zero_is))))

-- none of those below m is
pub none_at : (p : ℕ → Bool) (m : ℕ) → any_to m p ≡ false → (r : ℕ) → r < m → p r ≡ false
none_at p zero none r below = absurd (not-suc-le-zero below)
none_at p (suc m) none r below =
    ⊎_elim (λ e. rw e (or_right (any_to m p) (p m) none)) (λ l. none_at p m (or_left (any_to m p) (p m) none) r l)
    (eq-or-lt_of_le (le_of_suc-le-suc below))
