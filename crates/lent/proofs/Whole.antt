-- An operation on slices that are one row or one block each, for every number of values at once: what is read is all of an operand, and the result fills out.
-- Assumes nothing.
use mathlib.Core.Path.{◌≡◌, ◌∙◌}
use mathlib.Core.List.{List, append-nil}
use Prim.Native.Nat.{ℕ, ◌+◌, ◌≤◌}
use native.Mathlib.Omega.{arith}
use lib.ListN.{length, drop_of_length-le}
use lib.Seq.{take_all}
use lib.Ieee.{Float}
use Rattle.blocks.specs.Lent.{values_at, put_at}
use Rattle.blocks.proofs.LentLaws.{values_part}

pub whole_values : (m : ℕ) (values : List Float) → length values ≡ m → values_at m values 0 ≡ values
whole_values m values long = values_part m values 0 (omega arith) ∙ take_all m values (omega arith)

pub put_whole : (new out : List Float) → length new ≡ length out → put_at 0 new out ≡ new
unfolding put_at
put_whole new out long =
    let past : length out ≤ 0 + length new = omega arith in
    rw (take_all (length new) new (omega arith), drop_of_length-le out past, append-nil)
