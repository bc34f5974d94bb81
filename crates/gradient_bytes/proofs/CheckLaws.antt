-- The checks of the plain solver by the lengths of its bytes: each way out of them, what the rooms hold when none refuses, and the ends of the call.
-- Assumes nothing.
use mathlib.Core.Path.{◌≡◌, refl, sym, ap, ◌∙◌}
use mathlib.Core.List.{List, [], ◌∷◌, ◌++◌}
use mathlib.Core.Bool.{Bool, true, false, ◌||◌}
use Prim.Native.Nat.{ℕ, ◌-◌, ◌/◌}
use native.Mathlib.Omega.{arith}
use lib.Dec.{ltb}
use lib.ListN.{length}
use lib.Ieee.{binary64}
use borrow.Author.Tests.{le-ltb}
use Rattle.std.specs.Prelude.{Ok, Err}
use Rattle.answers.specs.Numbers.{Answer, AnswerOf}
use Rattle.answers.specs.declared.Refusal.{Refusal}
use Rattle.answers.specs.Numbers.{number_of, refusal_number}
use Rattle.answers.specs.Checks.{◌when◌, first_of}
use Rattle.answers.specs.Limits.{iterations_out_of_range}
use Rattle.answers.proofs.SameAnswer.{refusal_counts}
use Rattle.answers.proofs.EndLaws.{none_of_zero}
use Rattle.patterns.specs.Checks.{too_large}
use Rattle.matrix.specs.Checks.{wrong_values, matrix_lengths}
use Rattle.solvers.specs.declared.Solution.{Solution}
use Rattle.solvers.specs.Checks.{wrong_vectors, plain_lengths}
use Rattle.solve_outcomes.specs.Ends.{early_checks, SolveEnds}
use Rattle.solve_outcomes.proofs.EndLaws.{solve_earlier, solve_later}
use Rattle.wire.specs.Bytes.{values_in}
use Rattle.wire.specs.Words.{indexes_in}
use Rattle.wire.proofs.ByteLaws.{length_values}
use Rattle.wire.proofs.WordLaws.{length_indexes}
use Rattle.matrix_bytes.specs.Checks.{misshapen}
use Rattle.matrix_bytes.specs.Rooms.{HeldMatrix}
use Rattle.matrix_bytes.proofs.CheckLaws.{range_of, in_full, full_words}
use Rattle.solver_bytes.specs.Lent.{LentBytes}
use Rattle.solver_bytes.specs.Checks.{broken_vectors}
use Rattle.solver_bytes.specs.Rooms.{HeldVectors}
use Rattle.solver_bytes.proofs.VectorLaws.{held_vectors, limit_most}
use Rattle.gradient_bytes.specs.Checks.{misshapen_plain, plain_byte_checks}
use Rattle.gradient_bytes.specs.Rooms.{PlainPassed, pattern_rule}

-- ---- the ways out: m and w are the bytes and the lengths of the matrix, t the bytes of what else is lent, v the lengths of the vectors, h that of the history

pub matrix_wrong : (large m w t v h : Bool) → large ≡ false → (first_of ((1 when large) ∷ (2 when m) ∷ (1 when large) ∷ (2 when w) ∷ []) ≡ 0 → ⊥) → true ≡ (m || t) || (w || (v || h))
matrix_wrong true m w t v h small other = refl_from small
  where
    refl_from : true ≡ false → true ≡ (m || t) || (w || (v || h))
    refl_from e = absurd (omega (arith, ap (λ (b : Bool). first_of ((1 when b) ∷ [])) e))
matrix_wrong false true w t v h small other = refl
matrix_wrong false false true true v h small other = refl
matrix_wrong false false true false v h small other = refl
matrix_wrong false false false t v h small other = absurd (other refl)

pub matrix_right : (large m w : Bool) → first_of ((1 when large) ∷ (2 when m) ∷ (1 when large) ∷ (2 when w) ∷ []) ≡ 0 → (m ≡ false) × (w ≡ false)
matrix_right true m w zero_is = absurd (omega (arith, zero_is))
matrix_right false true w zero_is = absurd (omega (arith, zero_is))
matrix_right false false true zero_is = absurd (omega (arith, zero_is))
matrix_right false false false zero_is = (refl, refl)

-- the bytes or the lengths are wrong
pub wrong_is_two : (m w : Bool) → (m || w) ≡ true → 2 ≡ first_of ((2 when m) ∷ (1 when false) ∷ (10 when false) ∷ (2 when w) ∷ [])
wrong_is_two true w is = refl
wrong_is_two false true is = refl
wrong_is_two false false is = absurd (omega (arith, ap (λ (b : Bool). first_of ((1 when b) ∷ [])) is))

pub right_is_none : (m w : Bool) → (m || w) ≡ false → 0 ≡ first_of ((2 when m) ∷ (1 when false) ∷ (10 when false) ∷ (2 when w) ∷ [])
right_is_none true w is = absurd (omega (arith, ap (λ (b : Bool). first_of ((1 when b) ∷ [])) is))
right_is_none false true is = absurd (omega (arith, ap (λ (b : Bool). first_of ((1 when b) ∷ [])) is))
right_is_none false false is = refl

-- ---- no check refuses

none_refuses : (large far m t w v h : Bool)
    → first_of ((1 when large) ∷ (10 when far) ∷ (2 when (m || t)) ∷ (1 when large) ∷ (10 when far) ∷ (2 when (w || (v || h))) ∷ []) ≡ 0
    → (large ≡ false) × (far ≡ false) × (m ≡ false) × (t ≡ false) × (w ≡ false) × (v ≡ false) × (h ≡ false)
none_refuses true far m t w v h zero_is = absurd (omega (arith, zero_is))
none_refuses false true m t w v h zero_is = absurd (omega (arith, zero_is))
none_refuses false false true t w v h zero_is = absurd (omega (arith, zero_is))
none_refuses false false false true w v h zero_is = absurd (omega (arith, zero_is))
none_refuses false false false false true v h zero_is = absurd (omega (arith, zero_is))
none_refuses false false false false false true h zero_is = absurd (omega (arith, zero_is))
none_refuses false false false false false false true zero_is = absurd (omega (arith, zero_is))
none_refuses false false false false false false false zero_is = (refl, refl, refl, refl, refl, refl, refl)

-- so the rooms hold all that the call is lent
pub plain_in_room : (dim limit o cs v d r u ap p h : ℕ)
    → first_of (early_checks (too_large (o / 4) (cs / 4)) limit (misshapen_plain dim o cs v d r u ap p h)
    ++ plain_lengths dim limit (o / 4) (cs / 4) (v / 8) (d / 8) (r / 8) (u / 8) (ap / 8) (p / 8) (h / 8)) ≡ 0
    → (HeldMatrix 4096 65535 dim o cs v d) × (HeldVectors dim limit r u ap p h) × (PlainPassed dim limit (o / 4) (cs / 4) (v / 8) (d / 8) r u ap p)
plain_in_room dim limit o cs v d r u ap p h zero_is =
    let known = none_refuses (too_large (o / 4) (cs / 4)) (iterations_out_of_range limit) (misshapen dim o cs v d) (broken_vectors r u ap p h)
    (wrong_values dim (o / 4 - 1) (cs / 4) (v / 8) (d / 8)) (wrong_vectors (o / 4 - 1) dim (r / 8) (u / 8) (ap / 8) (p / 8)) (ltb (h / 8) limit) zero_is in
    let lengths : first_of (matrix_lengths dim (o / 4) (cs / 4) (v / 8) (d / 8)) ≡ 0 = rw (known.0, known.4) in
    let few = limit_most limit known.1 in (
      in_full dim o cs v d known.2 known.0 lengths,
      held_vectors dim (o / 4 - 1) limit r u ap p h (range_of dim o cs v d known.2) known.3 known.5 (full_words dim o cs v d known.2 known.0 lengths)
          (omega (arith, few)) known.6,
      rw (known.0, known.1, known.4, known.5, le-ltb limit limit (omega arith)),
    )

-- ---- the ends of the call: its lengths refuse it, or its words decide

module _ (dim limit : ℕ) (o cs v d : List ℕ) (old : LentBytes) (solution : Solution) (new left : LentBytes) (number : ℕ)
    (first : number ≡ first_of (early_checks (too_large (length o / 4) (length cs / 4)) limit
    (misshapen_plain dim (length o) (length cs) (length v) (length d) (length old.r) (length old.x) (length old.q) (length old.p) (length old.history))
    ++ plain_lengths dim limit (length o / 4) (length cs / 4) (length v / 8) (length d / 8) (length old.r / 8) (length old.x / 8) (length old.q / 8) (length old.p / 8) (length old.history / 8))) where
  told : number ≡ first_of (early_checks (too_large (length o / 4) (length cs / 4)) limit
      (misshapen_plain dim (length o) (length cs) (length v) (length d) (length old.r) (length old.x) (length old.q) (length old.p) (length old.history))
      ++ plain_lengths dim limit (length (indexes_in o)) (length (indexes_in cs)) (length (values_in binary64 v)) (length (values_in binary64 d)) (length (values_in binary64 old.r))
      (length (values_in binary64 old.x)) (length (values_in binary64 old.q)) (length (values_in binary64 old.p)) (length (values_in binary64 old.history)))
  told =
      rw (
        length_indexes o,
        length_indexes cs,
        length_values binary64 v,
        length_values binary64 d,
        length_values binary64 old.r,
        length_values binary64 old.x,
        length_values binary64 old.q,
        length_values binary64 old.p,
        length_values binary64 old.history,
      ) first

  pub plain_refuses : (result : AnswerOf Solution) (why : Refusal) → result ≡ Err why → refusal_number why ≡ number → SolveEnds {A = LentBytes} (plain_byte_checks dim limit o cs v d old) solution result new old old
  plain_refuses result why is same =
      let number_is = same ∙ told in
      rw is (solve_earlier (early_checks (too_large (length o / 4) (length cs / 4)) limit
      (misshapen_plain dim (length o) (length cs) (length v) (length d) (length old.r) (length old.x) (length old.q) (length old.p) (length old.history))
      ++ plain_lengths dim limit (length (indexes_in o)) (length (indexes_in cs)) (length (values_in binary64 v)) (length (values_in binary64 d)) (length (values_in binary64 old.r))
      (length (values_in binary64 old.x)) (length (values_in binary64 old.q)) (length (values_in binary64 old.p)) (length (values_in binary64 old.history)))
      (pattern_rule (indexes_in o) (indexes_in cs)) solution why new old number_is (λ z. refusal_counts why (number_is ∙ z)))

  pub plain_decides : (result : AnswerOf Solution) → 0 ≡ number → SolveEnds {A = LentBytes} (pattern_rule (indexes_in o) (indexes_in cs)) solution result new old left
      → SolveEnds {A = LentBytes} (plain_byte_checks dim limit o cs v d old) solution result new old left
  plain_decides result is end =
      let zero_is = sym (is ∙ told) in
      let checks = early_checks (too_large (length o / 4) (length cs / 4)) limit
      (misshapen_plain dim (length o) (length cs) (length v) (length d) (length old.r) (length old.x) (length old.q) (length old.p) (length old.history))
      ++ plain_lengths dim limit (length (indexes_in o)) (length (indexes_in cs)) (length (values_in binary64 v)) (length (values_in binary64 d)) (length (values_in binary64 old.r))
      (length (values_in binary64 old.x)) (length (values_in binary64 old.q)) (length (values_in binary64 old.p)) (length (values_in binary64 old.history)) in
      solve_later checks (pattern_rule (indexes_in o) (indexes_in cs)) solution result new old left (none_of_zero checks refl zero_is) end
