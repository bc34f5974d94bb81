-- The ways out of `initialize_full`, one for each number.
-- Assumes nothing.
use mathlib.Core.Path.{◌≡◌, refl, sym}
use mathlib.Core.List.{List, ◌++◌}
use mathlib.Core.Bool.{true, false}
use Prim.Native.Nat.{ℕ, ◌-◌, ◌*◌, ◌≤◌, ◌<◌}
use native.Mathlib.Nat.{mul-le-mul_left}
use native.Mathlib.Omega.{arith}
use lib.Dec.{ltb}
use lib.ListN.{length, take, drop, replicate}
use borrow.Author.Tests.{ltb-false, lt-ltb, le-ltb}
use Rattle.std.specs.Prelude.{Ok, Err}
use Rattle.base.proofs.All.{or_left, or_right}
use Rattle.answers.specs.declared.Refusal.TheVariants.{Size, Shape, Room}
use Rattle.answers.specs.Limits.{rows_out_of_range}
use Rattle.fill.specs.Promise.{wrong_outputs}
use Rattle.fill.proofs.OutputLaws.{outputs_are}
use Rattle.fill.proofs.JoinedLaws.{over_cleared}
use Rattle.full.specs.Full.{full_columns, Complete}
use Rattle.full.specs.Steps.{Roomy, Rows}
use Rattle.full.proofs.RowLaws.{length_full}

-- what check 1 has shown
pub rows_least : (n : ℕ) → rows_out_of_range n ≡ false → 1 ≤ n
rows_least n h = ltb-false _ _ (or_left (ltb n 1) (ltb 4096 n) h)

pub rows_most : (n : ℕ) → rows_out_of_range n ≡ false → n ≤ 4096
rows_most n h = ltb-false _ _ (or_right (ltb n 1) (ltb 4096 n) h)

pub few_entries : (n : ℕ) → n ≤ 4096 → n * (n - 1) ≤ 16777216
few_entries n h = let m : n - 1 ≤ 4096 = omega arith in omega (arith, mul-le-mul_left n m)

module _ (n : ℕ) (o cs ss : List ℕ) where
  pub wrong_size : rows_out_of_range n ≡ true → Complete n o cs ss (Err Size) o cs ss
  wrong_size a = record { number = rw a; offsets_are = refl; columns_are = refl; splits_are = refl }

  module _ (a : rows_out_of_range n ≡ false) where
    pub wrong_shape_lem : wrong_outputs n (length o) (length cs) (length ss) ≡ true → Complete n o cs ss (Err Shape) o cs ss
    wrong_shape_lem b = record { number = rw (a, b); offsets_are = refl; columns_are = refl; splits_are = refl }

    module _ (b : wrong_outputs n (length o) (length cs) (length ss) ≡ false) where
      pub no_room : (o' cs' ss' : List ℕ) → length cs < n * (n - 1) → o' ≡ replicate (length o) 0 → cs' ≡ replicate (length cs) 0 → ss' ≡ replicate (length ss) 0
          → Complete n o cs ss (Err Room) o' cs' ss'
      no_room o' cs' ss' d eo ec es = record { number = rw (a, b, lt-ltb _ _ d); offsets_are = eo; columns_are = ec; splits_are = es }

      module _ (d : n * (n - 1) ≤ length cs) where
        pub roomy_of : Roomy n (length o) (length cs) (length ss)
        roomy_of =
            let says = outputs_are n (length o) (length cs) (length ss) b in
            record {
              some_rows = rows_least n a;
              few = rows_most n a;
              offsets_long = says.offsets_long;
              splits_long = says.splits_long;
              room = says.room;
              fits = d;
            }

        -- the rows are written, and zeros behind them
        pub all_done : (o' cs₁ ss' t cs' : List ℕ) → Rows n cs o' cs₁ ss'
            → t ≡ replicate (length (take (length cs₁ - n * (n - 1)) (drop (n * (n - 1)) cs₁))) 0
            → cs' ≡ take (n * (n - 1)) cs₁ ++ (t ++ drop (length cs₁ - n * (n - 1)) (drop (n * (n - 1)) cs₁))
            → Complete n o cs ss (Ok tt) o' cs' ss'
        all_done o' cs₁ ss' t cs' R et ec =
            let long : length (full_columns n n) ≡ n * (n - 1) = length_full n n (omega arith) in
            let behind : cs' ≡ full_columns n n ++ replicate (length cs - length (full_columns n n)) 0 =
            over_cleared (n * (n - 1)) (full_columns n n) cs t cs' (sym long) (omega (arith, long)) (rw R.columns_are at et) (rw R.columns_are at ec) in
            record {
              number = rw (a, b, le-ltb _ _ d);
              offsets_are = R.offsets_are;
              columns_are = rw long at behind;
              splits_are = R.splits_are;
            }
