-- What is written to a lent slice reads back, and what stands elsewhere in it is as it was.
-- Assumes nothing.
use mathlib.Core.Path.{◌≡◌, refl, sym, ◌∙◌}
use mathlib.Core.List.{List}
use Prim.Native.Nat.{ℕ, zero, suc, ◌+◌, ◌≤◌}
use native.Mathlib.Omega.{arith}
use lib.ListN.{length, take, drop, length-drop}
use lib.Seq.{paste, length-paste, take-suc, get_or-drop}
use lib.Ieee.{Float, nan}
use Rattle.base.proofs.Parts.{part_same, part_before, part_after}
use Rattle.blocks.specs.Lent.{values_at, put_at}

-- the values from a place on are a part of the slice
pub values_part : (m : ℕ) (values : List Float) (p : ℕ) → p + m ≤ length values → values_at m values p ≡ take m (drop p values)
values_part zero values p fits = refl
values_part (suc m) values p fits =
    rw (values_part m values p (omega arith), take-suc (drop p values) m nan (omega (arith, length-drop p values)), get_or-drop p values m nan)

module _ (p : ℕ) (new values : List Float) (fits : p + length new ≤ length values) where
  pub length_put : length (put_at p new values) ≡ length values
  unfolding put_at
  length_put = length-paste values p new (length new) fits (omega arith)

  -- what is written reads back
  pub put_same : values_at (length new) (put_at p new values) p ≡ new
  unfolding put_at
  put_same =
      values_part (length new) (paste values p new (length new)) p (omega (arith, length-paste values p new (length new) fits (omega arith)))
      ∙ part_same values p new (length new) refl fits

  -- what stands before it, or after it, is as it was
  pub put_before : (q m : ℕ) → q + m ≤ p → values_at m (put_at p new values) q ≡ values_at m values q
  unfolding put_at
  put_before q m apart =
      values_part m (paste values p new (length new)) q (omega (arith, length-paste values p new (length new) fits (omega arith)))
      ∙ part_before values p new (length new) refl fits nan q m apart ∙ sym (values_part m values q (omega arith))

  pub put_after : (q m : ℕ) → p + length new ≤ q → q + m ≤ length values → values_at m (put_at p new values) q ≡ values_at m values q
  unfolding put_at
  put_after q m apart within =
      values_part m (paste values p new (length new)) q (omega (arith, length-paste values p new (length new) fits (omega arith)))
      ∙ part_after values p new (length new) refl fits q m apart ∙ sym (values_part m values q within)
