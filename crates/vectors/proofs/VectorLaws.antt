-- What a copy leaves: the list that was copied.
-- Assumes nothing.
use mathlib.Core.Path.{◌≡◌, sym, ◌∙◌}
use mathlib.Core.List.{List}
use lib.ListN.{length}
use lib.Seq.{ext_get_or}
use lib.Ieee.{Float, nan}
use Rattle.base.proofs.Each.{length_each, get_d_each}
use Rattle.vectors.specs.Vectors.{copied, copy_at}

pub copied_is : (u p : List Float) → length u ≡ length p → copied u p ≡ u
unfolding copied copy_at
copied_is u p same =
    ext_get_or nan (copied u p) u (length_each (copy_at u) p ∙ sym same) (λ i h. get_d_each (copy_at u) p i nan (rw (length_each (copy_at u) p) at h))
