-- The ends of a call on bytes: its lengths refuse it, or its words decide.
-- Assumes nothing.
use mathlib.Core.Path.{◌≡◌, refl, ap}
use mathlib.Core.List.{List, [], ◌∷◌, ◌++◌}
use mathlib.Core.Bool.{Bool, true, false, not, cond}
use Prim.Native.Nat.{ℕ, ◌/◌}
use lib.ListN.{length}
use Rattle.answers.specs.Numbers.{Answer}
use Rattle.answers.specs.Numbers.{number_of}
use Rattle.answers.specs.Checks.{Check, ◌when◌, first_of, none_holds}
use Rattle.answers.specs.Promise.{Ends}
use Rattle.answers.proofs.EndLaws.{none_of_zero, ends_earlier, ends_later}
use Rattle.patterns.specs.Pattern.{valid_pattern}
use Rattle.matrix.specs.Checks.{matrix_lengths, vector_lengths, matrix_checks, vector_checks}
use Rattle.wire.specs.Words.{indexes_in}
use Rattle.wire.proofs.WordLaws.{length_indexes}
use Rattle.pattern_bytes.specs.Checks.{byte_checks}

pub none_left : (earlier later : List Check) → none_holds (earlier ++ later) ≡ true → none_holds earlier ≡ true
none_left [] later none = refl
none_left ((k when true) ∷ earlier) later none = none
none_left ((k when false) ∷ earlier) later none = none_left earlier later none

module _ {A : Type 0} (wrong : Bool) (dim : ℕ) (o cs : List ℕ) (v d : ℕ) (answer : Answer) (new old left : A) where
  module _ (other : number_of answer ≡ 0 → ⊥) where
    pub matrix_refuses : number_of answer ≡ first_of (byte_checks (length o) (length cs) wrong ++ matrix_lengths dim (length o / 4) (length cs / 4) v d)
        → Ends (byte_checks (length o) (length cs) wrong ++ matrix_checks dim (indexes_in o) (indexes_in cs) v d) answer new old old
    matrix_refuses first =
        ends_earlier (byte_checks (length o) (length cs) wrong ++ matrix_lengths dim (length (indexes_in o)) (length (indexes_in cs)) v d)
        ((3 when not (valid_pattern (indexes_in o) (indexes_in cs))) ∷ []) answer new old (rw (length_indexes o, length_indexes cs) first) other

    pub vectors_refuse : (p q : ℕ) → number_of answer ≡ first_of (byte_checks (length o) (length cs) wrong ++ vector_lengths dim (length o / 4) (length cs / 4) v d p q)
        → Ends (byte_checks (length o) (length cs) wrong ++ vector_checks dim (indexes_in o) (indexes_in cs) v d p q) answer new old old
    vectors_refuse p q first =
        ends_earlier (byte_checks (length o) (length cs) wrong ++ vector_lengths dim (length (indexes_in o)) (length (indexes_in cs)) v d p q)
        ((3 when not (valid_pattern (indexes_in o) (indexes_in cs))) ∷ []) answer new old (rw (length_indexes o, length_indexes cs) first) other

  pub matrix_decides : first_of (byte_checks (length o) (length cs) wrong ++ matrix_lengths dim (length o / 4) (length cs / 4) v d) ≡ 0
      → Ends (matrix_checks dim (indexes_in o) (indexes_in cs) v d) answer new old left
      → Ends (byte_checks (length o) (length cs) wrong ++ matrix_checks dim (indexes_in o) (indexes_in cs) v d) answer new old left
  matrix_decides zero_is end =
      let lengths = matrix_lengths dim (length o / 4) (length cs / 4) v d in
      let bytes = byte_checks (length o) (length cs) wrong in
      ends_later bytes (matrix_checks dim (indexes_in o) (indexes_in cs) v d) answer new old left (none_left bytes lengths (none_of_zero (bytes ++ lengths) refl zero_is)) end

  pub vectors_decide : (p q : ℕ) → first_of (byte_checks (length o) (length cs) wrong ++ vector_lengths dim (length o / 4) (length cs / 4) v d p q) ≡ 0
      → Ends (vector_checks dim (indexes_in o) (indexes_in cs) v d p q) answer new old left
      → Ends (byte_checks (length o) (length cs) wrong ++ vector_checks dim (indexes_in o) (indexes_in cs) v d p q) answer new old left
  vectors_decide p q zero_is end =
      let lengths = vector_lengths dim (length o / 4) (length cs / 4) v d p q in
      let bytes = byte_checks (length o) (length cs) wrong in
      ends_later bytes (vector_checks dim (indexes_in o) (indexes_in cs) v d p q) answer new old left (none_left bytes lengths (none_of_zero (bytes ++ lengths) refl zero_is)) end

-- two slices, named the other way round
pub swapped : {A B : Type 0} (checks : List Check) (answer : Answer) (new old left : A) (new' old' left' : B)
    → Ends {A = A × B} checks answer (new, new') (old, old') (left, left') → Ends {A = B × A} checks answer (new', new) (old', old) (left', left)
swapped {A} {B} checks answer new old left new' old' left' end = record { number = end.number; lent = turned (none_holds checks) end.lent }
  where
    turned : (none : Bool) → ◌≡◌ {A = A × B} (left, left') (cond none (new, new') (old, old')) → ◌≡◌ {A = B × A} (left', left) (cond none (new', new) (old', old))
    turned true is = ap (λ (p : A × B). (p.1, p.0)) is
    turned false is = ap (λ (p : A × B). (p.1, p.0)) is
