-- The ways out of `initialize_iluk`, one for each number.
-- Assumes nothing.
use mathlib.Core.Path.{◌≡◌, refl, sym, ◌∙◌}
use mathlib.Core.List.{List}
use mathlib.Core.Bool.{Bool, true, false, not, ◌||◌}
use mathlib.Core.Option.{Option, none, some}
use Prim.Native.Nat.{ℕ, ◌≤◌, ◌<◌}
use native.Mathlib.Omega.{arith}
use lib.Dec.{eqb}
use lib.ListN.{length}
use borrow.Author.Tests.{le-leb, lt-ltb, le-ltb, leb-true, leb-false, eqb-true, not-false}
use Rattle.std.specs.Prelude.{Ok, Err}
use Rattle.base.specs.All.{all_to}
use Rattle.base.proofs.All.{all_of, or_left, or_right}
use Rattle.answers.specs.declared.Refusal.TheVariants.{Size, Shape, Pattern, Room}
use Rattle.patterns.specs.Pattern.{rows_of, valid_pattern}
use Rattle.patterns.specs.Checks.{too_large}
use Rattle.patterns.proofs.SizeLaws.{rows_most}
use Rattle.walks.specs.Levels.{level_of}
use Rattle.walks.proofs.LevelLaws.{level_low}
use Rattle.fill.specs.Fill.{stored, fill_offsets, fill_splits, start_of}
use Rattle.fill.specs.Promise.{wrong_outputs}
use Rattle.fill.specs.Steps.{Shaped, Whole}
use Rattle.fill.proofs.OutputLaws.{Outputs, outputs_are}
use Rattle.iluk.specs.Checks.{wrong_lengths, level_fits, level_passes}
use Rattle.iluk.specs.Iluk.{Initialized}

-- what check 2 has shown
pub record Lengths (n o cs ss ls row : ℕ) : Type 0 where
  pub outputs : Outputs n o cs ss
  pub levels : ls ≡ cs
  pub rows : row ≡ n

pub lengths_are : (n o cs ss ls row : ℕ) → wrong_lengths n o cs ss ls row ≡ false → Lengths n o cs ss ls row
lengths_are n o cs ss ls row h =
    let rest = or_right (wrong_outputs n o cs ss) (not (eqb ls cs) || not (eqb row n)) h in
    record {
      outputs = outputs_are n o cs ss (or_left (wrong_outputs n o cs ss) (not (eqb ls cs) || not (eqb row n)) h);
      levels = eqb-true _ _ (not-false _ (or_left (not (eqb ls cs)) (not (eqb row n)) rest));
      rows = eqb-true _ _ (not-false _ (or_right (not (eqb ls cs)) (not (eqb row n)) rest));
    }

-- no level passes 65,535: it is at most its row
pub no_level_passes : (A : ℕ → ℕ → Bool) (k n : ℕ) → n ≤ 4096 → level_passes A k n ≡ false
unfolding level_passes
no_level_passes A k n few =
    let all = all_of (λ i. all_to (λ j. level_fits (level_of A k i j)) n) n (λ i hi. all_of (λ j. level_fits (level_of A k i j)) n (λ j hj. fits i j hi (level_of A k i j) refl)) in
    rw all
  where
    fits : (i j : ℕ) → i < n → (o : Option ℕ) → level_of A k i j ≡ o → level_fits o ≡ true
    fits i j hi none e = refl
    fits i j hi (some l) e = le-leb l 65535 (omega (arith, level_low A k i j l e))

module _ (k : ℕ) (ao ac o cs ss ls row : List ℕ) where
  pub wrong_size : too_large (length ao) (length ac) ≡ true → Initialized k ao ac o cs ss ls row (Err Size) o cs ss ls row
  wrong_size a = record { number = rw a; offsets_are = refl; columns_are = refl; splits_are = refl; levels_are = refl; row_is = refl }

  module _ (a : too_large (length ao) (length ac) ≡ false) where
    pub wrong_shape_lem : wrong_lengths (rows_of ao) (length o) (length cs) (length ss) (length ls) (length row) ≡ true
        → Initialized k ao ac o cs ss ls row (Err Shape) o cs ss ls row
    wrong_shape_lem b = record { number = rw (a, b); offsets_are = refl; columns_are = refl; splits_are = refl; levels_are = refl; row_is = refl }

    module _ (b : wrong_lengths (rows_of ao) (length o) (length cs) (length ss) (length ls) (length row) ≡ false) where
      pub wrong_pattern : valid_pattern ao ac ≡ false → Initialized k ao ac o cs ss ls row (Err Pattern) o cs ss ls row
      wrong_pattern d = record { number = rw (a, b, d); offsets_are = refl; columns_are = refl; splits_are = refl; levels_are = refl; row_is = refl }

      module _ (d : valid_pattern ao ac ≡ true) where
        says : Lengths (rows_of ao) (length o) (length cs) (length ss) (length ls) (length row)
        says = lengths_are _ _ _ _ _ _ b

        pub rows_long : length row ≡ rows_of ao
        rows_long = says.rows

        pub shaped_of : Shaped ao ac o cs ss ls row
        shaped_of = record {
          rows = sym rows_long;
          valid = d;
          few = omega (arith, rows_long, rows_most (length ao) (length ac) a);
          room = says.outputs.room;
          offsets_long = omega (arith, says.outputs.offsets_long, rows_long);
          splits_long = omega (arith, says.outputs.splits_long, rows_long);
          levels_long = says.levels;
        }

        low : level_passes (stored ao ac) k (rows_of ao) ≡ false
        low = no_level_passes (stored ao ac) k (rows_of ao) (rows_most (length ao) (length ac) a)

        module _ (r : Bool) (o' cs' ss' ls' row' : List ℕ) (w : Whole (stored ao ac) k (rows_of ao) (length cs) r o' cs' ss' ls' row') where
          pub all_done : r ≡ true → Initialized k ao ac o cs ss ls row (Ok tt) o' cs' ss' ls' row'
          unfolding fill_offsets fill_splits
          all_done t =
              let room = le-ltb _ _ (leb-true (start_of (stored ao ac) k (rows_of ao) (rows_of ao)) (length cs) (sym w.answer ∙ t)) in
              record {
                number = rw (a, b, d, low, room);
                offsets_are = w.offsets ∙ rw t;
                columns_are = w.columns ∙ rw t;
                splits_are = w.splits ∙ rw t;
                levels_are = w.levels ∙ rw says.levels;
                row_is = w.row_clear ∙ rw rows_long;
              }

          pub no_room : r ≡ false → Initialized k ao ac o cs ss ls row (Err Room) o' cs' ss' ls' row'
          no_room t =
              let full = lt-ltb _ _ (leb-false (start_of (stored ao ac) k (rows_of ao) (rows_of ao)) (length cs) (sym w.answer ∙ t)) in
              record {
                number = rw (a, b, d, low, full);
                offsets_are = w.offsets ∙ rw (t, says.outputs.offsets_long);
                columns_are = w.columns ∙ rw t;
                splits_are = w.splits ∙ rw (t, says.outputs.splits_long);
                levels_are = w.levels ∙ rw says.levels;
                row_is = w.row_clear ∙ rw rows_long;
              }
