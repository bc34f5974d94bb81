-- The ends of a checked call on a matrix and its flags: lengths refuse it, the pattern refuses it, or it is done. And what holds in the last case.
-- Assumes nothing.
use mathlib.Core.Path.{◌≡◌, refl}
use mathlib.Core.List.{List, [], ◌∷◌}
use mathlib.Core.Bool.{true, false, not}
use Prim.Native.Nat.{ℕ, ◌*◌}
use native.Mathlib.Omega.{arith}
use lib.ListN.{length}
use Rattle.std.specs.Prelude.{Err}
use Rattle.answers.specs.Numbers.{Answer}
use Rattle.answers.specs.declared.Refusal.TheVariants.{Pattern}
use Rattle.answers.specs.Numbers.{number_of}
use Rattle.answers.specs.Checks.{◌when◌, first_of, none_holds, order, in_order}
use Rattle.answers.specs.Promise.{Ends}
use Rattle.answers.proofs.EndLaws.{none_of_zero, ends_later, ends_earlier, same_answer_at_end, same_lent_at_end}
use Rattle.lent.specs.Steps.{Dim}
use Rattle.patterns.specs.Pattern.{rows_of, valid_pattern}
use Rattle.patterns.proofs.SizeLaws.{rows_least}
use Rattle.patterns.specs.Checks.{too_large}
use Rattle.matrix.specs.Checks.{vector_lengths, vector_checks}
use Rattle.matrix.specs.Fits.{MatrixFits}
use Rattle.matrix.proofs.CheckLaws as checked

-- two written slices that are as they should be, as one pair
pub both_same : {A B : Type 0} {a x : A} {b y : B} → a ≡ x → b ≡ y → ◌≡◌ {A = A × B} (a, b) (x, y)
both_same p q = cc

module _ (n : ℕ) (o cs : List ℕ) (values diagonal flags : ℕ) where
  -- The checks come in document 01's order and answer no 9, so that two calls that meet the promise agree in everything.
  pub in_order_lem : in_order order (vector_checks n o cs values diagonal flags flags) ≡ true
  in_order_lem = refl

  pub same_end : {A : Type 0} (new old : A) (a b : Answer) (x y : A) → Ends (vector_checks n o cs values diagonal flags flags) a new old x
      → Ends (vector_checks n o cs values diagonal flags flags) b new old y → (a ≡ b) × (x ≡ y)
  same_end new old a b x y p q = (
    same_answer_at_end (vector_checks n o cs values diagonal flags flags) new old a b x y p q refl,
    same_lent_at_end (vector_checks n o cs values diagonal flags flags) new old a b x y p q,
  )

  pub lengths_refuse : {A : Type 0} (answer : Answer) (new old : A)
      → number_of answer ≡ first_of (vector_lengths n (length o) (length cs) values diagonal flags flags) → (number_of answer ≡ 0 → ⊥)
      → Ends (vector_checks n o cs values diagonal flags flags) answer new old old
  lengths_refuse answer new old first other =
      ends_earlier (vector_lengths n (length o) (length cs) values diagonal flags flags) ((3 when not (valid_pattern o cs)) ∷ []) answer new old first other

  -- no length refuses
  module _ (zero_is : first_of (vector_lengths n (length o) (length cs) values diagonal flags flags) ≡ 0) where
    none : none_holds (vector_lengths n (length o) (length cs) values diagonal flags flags) ≡ true
    none = none_of_zero (vector_lengths n (length o) (length cs) values diagonal flags flags) refl zero_is

    pub sized : too_large (length o) (length cs) ≡ false
    sized =
        checked.sized n (length o) (length cs) values diagonal
        (checked.matrix_too n (length o) (length cs) values diagonal flags flags zero_is)

    pub pattern_refuses : {A : Type 0} (new old : A) → valid_pattern o cs ≡ false
        → Ends (vector_checks n o cs values diagonal flags flags) (Err Pattern) new old old
    pattern_refuses new old invalid =
        ends_later (vector_lengths n (length o) (length cs) values diagonal flags flags) ((3 when not (valid_pattern o cs)) ∷ []) (Err Pattern) new old old none
        (record { number = rw invalid; lent = rw invalid })

    -- nor does the pattern
    module _ (valid : valid_pattern o cs ≡ true) where
      pub done : {A : Type 0} (answer : Answer) (new old left : A) → number_of answer ≡ 0 → left ≡ new
          → Ends (vector_checks n o cs values diagonal flags flags) answer new old left
      done answer new old left number right =
          ends_later (vector_lengths n (length o) (length cs) values diagonal flags flags) ((3 when not (valid_pattern o cs)) ∷ []) answer new old left none
          (record { number = rw valid number; lent = rw valid right })

      pub all_fits : Dim n → (MatrixFits n o cs values diagonal) × (flags ≡ n * rows_of o)
      all_fits dim =
          let lengths = checked.matrix_too n (length o) (length cs) values diagonal flags flags zero_is in (
            record {
              dim = dim;
              some = omega (arith, rows_least (length o) (length cs) sized);
              pattern = valid;
              of_values = checked.entries_are n (length o) (length cs) values diagonal lengths;
              of_diagonal = checked.diagonal_is n (length o) (length cs) values diagonal lengths;
            },
            checked.first_is n (length o) (length cs) values diagonal flags flags zero_is,
          )
