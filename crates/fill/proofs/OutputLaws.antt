-- What check 2 has shown of the lengths of what is written.
-- Assumes nothing.
use mathlib.Core.Path.{◌≡◌}
use mathlib.Core.Bool.{false, not, ◌||◌}
use Prim.Native.Nat.{ℕ, ◌+◌, ◌≤◌}
use lib.Dec.{ltb, eqb}
use borrow.Author.Tests.{ltb-false, eqb-true, not-false}
use Rattle.base.proofs.All.{or_left, or_right}
use Rattle.answers.specs.Limits.{entries_out_of_range}
use Rattle.fill.specs.Promise.{wrong_outputs}

pub record Outputs (n offsets columns splits : ℕ) : Type 0 where
  pub offsets_long : offsets ≡ n + 1
  pub room : columns ≤ 65535
  pub splits_long : splits ≡ n

pub outputs_are : (n offsets columns splits : ℕ) → wrong_outputs n offsets columns splits ≡ false → Outputs n offsets columns splits
outputs_are n offsets columns splits h =
    let rest = or_right (not (eqb offsets (n + 1))) (entries_out_of_range columns || not (eqb splits n)) h in
    record {
      offsets_long = eqb-true _ _ (not-false _ (or_left (not (eqb offsets (n + 1))) (entries_out_of_range columns || not (eqb splits n)) h));
      room = ltb-false _ _ (or_right (ltb columns 0) (ltb 65535 columns) (or_left (entries_out_of_range columns) (not (eqb splits n)) rest));
      splits_long = eqb-true _ _ (not-false _ (or_right (entries_out_of_range columns) (not (eqb splits n)) rest));
    }
