-- A part that is read from two slices and written back to a third.
-- Assumes nothing.
use mathlib.Core.Path.{◌≡◌, sym, ap, ◌∙◌}
use mathlib.Core.List.{List, ◌++◌, append_assoc}
use Prim.Native.Nat.{ℕ, ◌+◌, ◌*◌, ◌≤◌}
use native.Mathlib.Omega.{arith}
use lib.ListN.{length, take, drop}
use lib.Seq.{take_all, drop-drop}
use lib.Ieee.{Float}
use Rattle.blocks.specs.Lent.{values_at, put_at}
use Rattle.blocks.proofs.LentLaws.{values_part}
use Rattle.lent.specs.Steps.{Within, part_at}

-- put back at its place, what op makes of two parts is that part of the slice
pub part_put : (op : List Float → List Float → List Float) (m k : ℕ) (u v new z : List Float) → Within m k (length u) → Within m k (length v)
    → length new ≡ m → new ≡ op (values_at m u (m * k)) (values_at m v (m * k)) → put_at (m * k) new z ≡ part_at op m u v k z
unfolding put_at part_at
part_put op m k u v new z fits_u fits_v long made =
    let parts : new ≡ op (take m (drop (m * k) u)) (take m (drop (m * k) v)) =
    rw (values_part m u (m * k) fits_u, values_part m v (m * k) fits_v) at made in
    let whole : length new ≤ length new = omega arith in
    append_assoc (take (m * k) z) (take (length new) new) (drop (m * k + length new) z)
    ∙ ap (λ (l : List Float). take (m * k) z ++ l)
    (ap (λ (l : List Float). l ++ drop (m * k + length new) z) (take_all (length new) new whole ∙ parts)
    ∙ ap (λ (l : List Float). op (take m (drop (m * k) u)) (take m (drop (m * k) v)) ++ l)
    (ap (λ (n : ℕ). drop (m * k + n) z) long ∙ sym (drop-drop m (m * k) z)))
