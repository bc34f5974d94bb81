-- The checks of the solve by the lengths of its bytes: each way out of them, what the rooms hold when none refuses, and the ends of the call.
-- Assumes nothing.
use mathlib.Core.Path.{◌≡◌, refl}
use mathlib.Core.List.{List, [], ◌∷◌, ◌++◌}
use mathlib.Core.Bool.{Bool, true, false, not, ◌||◌}
use Prim.Native.Nat.{ℕ, ◌-◌, ◌*◌, ◌/◌}
use native.Mathlib.Omega.{arith}
use lib.ListN.{length}
use borrow.Author.Tests.{eqb-true, not-false}
use Rattle.answers.specs.Numbers.{Answer}
use Rattle.answers.specs.Numbers.{number_of}
use Rattle.answers.specs.Checks.{◌when◌, first_of}
use Rattle.answers.specs.Limits.{wrong_length}
use Rattle.answers.specs.Promise.{Ends}
use Rattle.answers.proofs.EndLaws.{none_of_zero, ends_earlier, ends_later}
use Rattle.patterns.specs.Checks.{too_large}
use Rattle.patterns.specs.Pattern.{valid_pattern, valid_splits}
use Rattle.factor_check.specs.Checks.{wrong_factor}
use Rattle.precondition.specs.Checks.{solve_lengths, solve_checks}
use Rattle.wire.specs.Words.{indexes_in}
use Rattle.wire.proofs.WordLaws.{length_indexes}
use Rattle.pattern_bytes.specs.Checks.{broken, byte_checks, Held}
use Rattle.pattern_bytes.proofs.RoomLaws.{whole_values}
use Rattle.matrix_bytes.specs.Rooms.{is_many}
use Rattle.matrix_bytes.proofs.EndedLaws.{none_left}
use Rattle.factor_bytes.specs.Checks.{factor_lengths}
use Rattle.factor_bytes.specs.Rooms.{HeldFactor}
use Rattle.factor_bytes.proofs.CheckLaws.{not_torn, factor_in_full, factor_in_small, words_in_full, words_in_small}
use Rattle.solve_bytes.specs.Checks.{misshapen_solve}

-- ---- the vector's length is looked at last: m are the bytes, wrong the factor's lengths, x the vector's

factor_first : (large m wrong x : Bool) → (first_of ((1 when large) ∷ (2 when m) ∷ (1 when large) ∷ (2 when wrong) ∷ []) ≡ 0 → ⊥)
    → first_of ((1 when large) ∷ (2 when m) ∷ (1 when large) ∷ (2 when wrong) ∷ []) ≡ first_of ((1 when large) ∷ (2 when m) ∷ (1 when large) ∷ (2 when (wrong || x)) ∷ [])
factor_first true m wrong x other = refl
factor_first false true wrong x other = refl
factor_first false false true x other = refl
factor_first false false false x other = absurd (other refl)

left_to_vector : (large m wrong x : Bool) → first_of ((1 when large) ∷ (2 when m) ∷ (1 when large) ∷ (2 when wrong) ∷ []) ≡ 0
    → first_of ((1 when large) ∷ (2 when m) ∷ (1 when large) ∷ (2 when (wrong || x)) ∷ []) ≡ first_of ((2 when x) ∷ [])
left_to_vector true m wrong x zero_is = absurd (omega (arith, zero_is))
left_to_vector false true wrong x zero_is = absurd (omega (arith, zero_is))
left_to_vector false false true x zero_is = absurd (omega (arith, zero_is))
left_to_vector false false false x zero_is = refl

none_refuses : (large m wrong x : Bool) → first_of ((1 when large) ∷ (2 when m) ∷ (1 when large) ∷ (2 when (wrong || x)) ∷ []) ≡ 0
    → (first_of ((1 when large) ∷ (2 when m) ∷ (1 when large) ∷ (2 when wrong) ∷ []) ≡ 0) × (x ≡ false)
none_refuses true m wrong x zero_is = absurd (omega (arith, zero_is))
none_refuses false true wrong x zero_is = absurd (omega (arith, zero_is))
none_refuses false false true x zero_is = absurd (omega (arith, zero_is))
none_refuses false false false true zero_is = absurd (omega (arith, zero_is))
none_refuses false false false false zero_is = (refl, refl)

module _ (dim o cs s d v vec : ℕ) where
  pub factor_refuses : (first_of (byte_checks o cs (misshapen_solve dim o cs s d v vec) ++ factor_lengths dim (o / 4) (cs / 4) (s / 4) (d / 8) (v / 8)) ≡ 0 → ⊥)
      → first_of (byte_checks o cs (misshapen_solve dim o cs s d v vec) ++ factor_lengths dim (o / 4) (cs / 4) (s / 4) (d / 8) (v / 8))
      ≡ first_of (byte_checks o cs (misshapen_solve dim o cs s d v vec) ++ solve_lengths dim (o / 4) (cs / 4) (s / 4) (d / 8) (v / 8) (vec / 8))
  factor_refuses =
      factor_first (too_large (o / 4) (cs / 4)) (misshapen_solve dim o cs s d v vec) (wrong_factor dim (o / 4 - 1) (cs / 4) (s / 4) (d / 8) (v / 8)) (wrong_length (o / 4 - 1) dim (vec / 8))

  pub vector_decides : first_of (byte_checks o cs (misshapen_solve dim o cs s d v vec) ++ factor_lengths dim (o / 4) (cs / 4) (s / 4) (d / 8) (v / 8)) ≡ 0
      → first_of (byte_checks o cs (misshapen_solve dim o cs s d v vec) ++ solve_lengths dim (o / 4) (cs / 4) (s / 4) (d / 8) (v / 8) (vec / 8)) ≡ first_of ((2 when wrong_length (o / 4 - 1) dim (vec / 8)) ∷ [])
  vector_decides =
      left_to_vector (too_large (o / 4) (cs / 4)) (misshapen_solve dim o cs s d v vec) (wrong_factor dim (o / 4 - 1) (cs / 4) (s / 4) (d / 8) (v / 8)) (wrong_length (o / 4 - 1) dim (vec / 8))

  -- so the rooms hold all that the call is lent
  module _ (zero_is : first_of (byte_checks o cs (misshapen_solve dim o cs s d v vec) ++ solve_lengths dim (o / 4) (cs / 4) (s / 4) (d / 8) (v / 8) (vec / 8)) ≡ 0) where
    passed : (first_of (byte_checks o cs (misshapen_solve dim o cs s d v vec) ++ factor_lengths dim (o / 4) (cs / 4) (s / 4) (d / 8) (v / 8)) ≡ 0) × (wrong_length (o / 4 - 1) dim (vec / 8) ≡ false)
    passed =
        none_refuses (too_large (o / 4) (cs / 4)) (misshapen_solve dim o cs s d v vec) (wrong_factor dim (o / 4 - 1) (cs / 4) (s / 4) (d / 8) (v / 8)) (wrong_length (o / 4 - 1) dim (vec / 8)) zero_is

    vec_whole : vec ≡ 8 * (vec / 8)
    vec_whole = whole_values vec (not_torn dim o cs s d v (broken 8 vec) passed.0)

    vec_is : vec / 8 ≡ dim * (o / 4 - 1)
    vec_is = eqb-true _ _ (not-false _ passed.1)

    pub solve_in_full : (HeldFactor 4096 65535 dim o cs s d v) × (Held 8 12288 vec)
    solve_in_full = (
      factor_in_full dim o cs s d v (broken 8 vec) passed.0,
      record { whole = vec_whole; few = words_in_full dim o cs s d v (broken 8 vec) passed.0 (vec / 8) vec_is },
    )

    pub solve_in_small : is_many o cs ≡ false → (HeldFactor 16 64 dim o cs s d v) × (Held 8 48 vec)
    solve_in_small few = (
      factor_in_small dim o cs s d v (broken 8 vec) passed.0 few,
      record { whole = vec_whole; few = words_in_small dim o cs s d v (broken 8 vec) passed.0 few (vec / 8) vec_is },
    )

-- ---- the ends of the call: its lengths refuse it, or its words decide

module _ {A : Type 0} (wrong : Bool) (dim : ℕ) (o cs s : List ℕ) (d v vec : ℕ) (answer : Answer) (new old left : A) where
  pub solve_refuses : (number_of answer ≡ 0 → ⊥)
      → number_of answer ≡ first_of (byte_checks (length o) (length cs) wrong ++ solve_lengths dim (length o / 4) (length cs / 4) (length s / 4) d v vec)
      → Ends (byte_checks (length o) (length cs) wrong ++ solve_checks dim (indexes_in o) (indexes_in cs) (indexes_in s) d v vec) answer new old old
  solve_refuses other first =
      ends_earlier (byte_checks (length o) (length cs) wrong ++ solve_lengths dim (length (indexes_in o)) (length (indexes_in cs)) (length (indexes_in s)) d v vec)
      ((3 when not (valid_pattern (indexes_in o) (indexes_in cs))) ∷ (11 when not (valid_splits (indexes_in o) (indexes_in cs) (indexes_in s))) ∷ []) answer new old (rw (length_indexes o, length_indexes cs, length_indexes s) first) other

  pub solve_decides : first_of (byte_checks (length o) (length cs) wrong ++ solve_lengths dim (length o / 4) (length cs / 4) (length s / 4) d v vec) ≡ 0
      → Ends (solve_checks dim (indexes_in o) (indexes_in cs) (indexes_in s) d v vec) answer new old left
      → Ends (byte_checks (length o) (length cs) wrong ++ solve_checks dim (indexes_in o) (indexes_in cs) (indexes_in s) d v vec) answer new old left
  solve_decides zero_is end =
      let lengths = solve_lengths dim (length o / 4) (length cs / 4) (length s / 4) d v vec in
      let bytes = byte_checks (length o) (length cs) wrong in
      ends_later bytes (solve_checks dim (indexes_in o) (indexes_in cs) (indexes_in s) d v vec) answer new old left (none_left bytes lengths (none_of_zero (bytes ++ lengths) refl zero_is)) end
