-- The ways out of `initialize_ilu0`, one for each number.
-- Assumes nothing.
use mathlib.Core.Path.{◌≡◌, refl}
use mathlib.Core.List.{List}
use mathlib.Core.Bool.{true, false}
use Prim.Native.Nat.{ℕ, ◌≤◌, ◌<◌}
use native.Mathlib.Omega.{arith}
use lib.ListN.{length, replicate}
use borrow.Author.Tests.{lt-ltb, le-ltb}
use Rattle.std.specs.Prelude.{Ok, Err}
use Rattle.answers.specs.declared.Refusal.TheVariants.{Size, Shape, Pattern, Room}
use Rattle.patterns.specs.Pattern.{rows_of, valid_pattern}
use Rattle.patterns.specs.Checks.{too_large}
use Rattle.patterns.proofs.SizeLaws.{rows_least, rows_most}
use Rattle.fill.specs.Promise.{wrong_outputs}
use Rattle.fill.proofs.OutputLaws.{outputs_are}
use Rattle.ilu0.specs.Ilu0.{Sorted}
use Rattle.ilu0.specs.Steps.{Ready, Written}

module _ (starts entries o cs ss : List ℕ) where
  pub wrong_size : too_large (length starts) (length entries) ≡ true → Sorted starts entries o cs ss (Err Size) o cs ss
  wrong_size a = record { number = rw a; offsets_are = refl; columns_are = refl; splits_are = refl }

  module _ (a : too_large (length starts) (length entries) ≡ false) where
    pub wrong_shape_lem : wrong_outputs (rows_of starts) (length o) (length cs) (length ss) ≡ true → Sorted starts entries o cs ss (Err Shape) o cs ss
    wrong_shape_lem b = record { number = rw (a, b); offsets_are = refl; columns_are = refl; splits_are = refl }

    module _ (b : wrong_outputs (rows_of starts) (length o) (length cs) (length ss) ≡ false) where
      pub wrong_pattern : valid_pattern starts entries ≡ false → Sorted starts entries o cs ss (Err Pattern) o cs ss
      wrong_pattern d = record { number = rw (a, b, d); offsets_are = refl; columns_are = refl; splits_are = refl }

      module _ (d : valid_pattern starts entries ≡ true) where
        pub no_room : (o' cs' ss' : List ℕ) → length cs < length entries → o' ≡ replicate (length o) 0 → cs' ≡ replicate (length cs) 0 → ss' ≡ replicate (length ss) 0
            → Sorted starts entries o cs ss (Err Room) o' cs' ss'
        no_room o' cs' ss' e eo ec es = record { number = rw (a, b, d, lt-ltb _ _ e); offsets_are = eo; columns_are = ec; splits_are = es }

        module _ (e : length entries ≤ length cs) where
          pub ready_of : Ready starts entries (length o) (length cs) (length ss)
          ready_of =
              let says = outputs_are (rows_of starts) (length o) (length cs) (length ss) b in
              let least = rows_least (length starts) (length entries) a in
              record {
                some_rows = omega arith;
                valid = d;
                few = omega (arith, says.splits_long, rows_most (length starts) (length entries) a);
                offsets_long = omega (arith, says.offsets_long);
                splits_long = says.splits_long;
                room = says.room;
                fits = e;
              }

          pub all_done : (o' cs' ss' : List ℕ) → Written starts entries (length cs) o' cs' ss' → Sorted starts entries o cs ss (Ok tt) o' cs' ss'
          all_done o' cs' ss' W = record { number = rw (a, b, d, le-ltb _ _ e); offsets_are = W.offsets_are; columns_are = W.columns_are; splits_are = W.splits_are }
