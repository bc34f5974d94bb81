-- The checks of the preconditioned solver by the lengths of its bytes: each way out of them, what the rooms hold when none refuses, and the ends of the call.
-- Assumes nothing.
use mathlib.Core.Path.{◌≡◌, refl, sym, ap, ◌∙◌}
use mathlib.Core.List.{List, [], ◌∷◌, ◌++◌}
use mathlib.Core.Bool.{Bool, true, false, not, ◌||◌}
use Prim.Native.Nat.{ℕ, ◌+◌, ◌-◌, ◌/◌}
use native.Mathlib.Omega.{arith}
use lib.Dec.{ltb, eqb}
use lib.ListN.{length}
use lib.Ieee.{binary64}
use borrow.Author.Tests.{le-ltb}
use Rattle.std.specs.Prelude.{Ok, Err}
use Rattle.answers.specs.Numbers.{Answer, AnswerOf}
use Rattle.base.proofs.All.{or_left, or_right}
use Rattle.answers.specs.declared.Refusal.{Refusal}
use Rattle.answers.specs.Numbers.{number_of, refusal_number}
use Rattle.answers.specs.Checks.{◌when◌, first_of}
use Rattle.answers.specs.Limits.{iterations_out_of_range}
use Rattle.answers.proofs.SameAnswer.{refusal_counts}
use Rattle.answers.proofs.EndLaws.{none_of_zero}
use Rattle.patterns.specs.Checks.{too_large}
use Rattle.matrix.specs.Checks.{wrong_values, matrix_lengths}
use Rattle.factor_check.specs.Checks.{wrong_factor}
use Rattle.solvers.specs.declared.Solution.{Solution}
use Rattle.solvers.specs.Checks.{wrong_vectors, preconditioned_lengths, preconditioned_rules}
use Rattle.solve_outcomes.specs.Ends.{early_checks, SolveEnds}
use Rattle.solve_outcomes.proofs.EndLaws.{solve_earlier, solve_later}
use Rattle.wire.specs.Bytes.{values_in}
use Rattle.wire.specs.Words.{indexes_in}
use Rattle.wire.proofs.ByteLaws.{length_values}
use Rattle.wire.proofs.WordLaws.{length_indexes}
use Rattle.pattern_bytes.specs.Checks.{byte_checks}
use Rattle.matrix_bytes.specs.Checks.{misshapen}
use Rattle.matrix_bytes.specs.Rooms.{HeldMatrix}
use Rattle.matrix_bytes.proofs.CheckLaws.{range_of, in_full, full_words}
use Rattle.factor_bytes.specs.Checks.{misshapen_factor, factor_lengths}
use Rattle.factor_bytes.specs.Rooms.{HeldFactor}
use Rattle.factor_bytes.proofs.CheckLaws.{factor_in_full}
use Rattle.solver_bytes.specs.Lent.{LentBytes}
use Rattle.solver_bytes.specs.Checks.{broken_vectors}
use Rattle.solver_bytes.specs.Rooms.{HeldVectors}
use Rattle.solver_bytes.proofs.VectorLaws.{held_vectors, limit_most}
use Rattle.preconditioned_room.specs.Rooms.{PreconditionedPassed}
use Rattle.preconditioned_bytes.specs.Checks.{misshapen_preconditioned, preconditioned_byte_checks}

true_false : true ≡ false → ⊥
true_false e = absurd (omega (arith, ap (λ (b : Bool). first_of ((1 when b) ∷ [])) e))

-- ---- the ways out: m and w are the bytes and the lengths of the matrix or of the factor

pub either_wrong : (large m w : Bool) → large ≡ false → (first_of ((1 when large) ∷ (2 when m) ∷ (1 when large) ∷ (2 when w) ∷ []) ≡ 0 → ⊥) → (m || w) ≡ true
either_wrong true m w small other = absurd (true_false small)
either_wrong false true w small other = refl
either_wrong false false true small other = refl
either_wrong false false false small other = absurd (other refl)

pub both_right : (large m w : Bool) → first_of ((1 when large) ∷ (2 when m) ∷ (1 when large) ∷ (2 when w) ∷ []) ≡ 0 → (m ≡ false) × (w ≡ false)
both_right true m w zero_is = absurd (omega (arith, zero_is))
both_right false true w zero_is = absurd (omega (arith, zero_is))
both_right false false true zero_is = absurd (omega (arith, zero_is))
both_right false false false zero_is = (refl, refl)

pub matrix_wrong : (m w u k : Bool) → (m || w) ≡ true → true ≡ (m || u) || (w || k)
matrix_wrong true w u k is = refl
matrix_wrong false true true k is = refl
matrix_wrong false true false k is = refl
matrix_wrong false false u k is = absurd (true_false (sym is))

pub factor_wrong : (m w e k : Bool) → (m || w) ≡ true → true ≡ m || (e || (w || k))
factor_wrong true w e k is = refl
factor_wrong false true true k is = refl
factor_wrong false true false k is = refl
factor_wrong false false e k is = absurd (true_false (sym is))

-- the bytes or the lengths are wrong
pub wrong_is_two : (m w : Bool) → (m || w) ≡ true → 2 ≡ first_of ((2 when m) ∷ (1 when false) ∷ (10 when false) ∷ (2 when w) ∷ [])
wrong_is_two true w is = refl
wrong_is_two false true is = refl
wrong_is_two false false is = absurd (true_false (sym is))

pub right_is_none : (m w : Bool) → (m || w) ≡ false → 0 ≡ first_of ((2 when m) ∷ (1 when false) ∷ (10 when false) ∷ (2 when w) ∷ [])
right_is_none true w is = absurd (true_false is)
right_is_none false true is = absurd (true_false is)
right_is_none false false is = refl

-- ---- no check refuses

none_refuses : (large far m u w e y v h : Bool)
    → first_of ((1 when large) ∷ (10 when far) ∷ (2 when (m || u)) ∷ (1 when large) ∷ (10 when far) ∷ (2 when (w || (e || (y || (v || h))))) ∷ []) ≡ 0
    → (large ≡ false) × (far ≡ false) × (m ≡ false) × (u ≡ false) × (w ≡ false) × (e ≡ false) × (y ≡ false) × (v ≡ false) × (h ≡ false)
none_refuses true far m u w e y v h zero_is = absurd (omega (arith, zero_is))
none_refuses false true m u w e y v h zero_is = absurd (omega (arith, zero_is))
none_refuses false false true u w e y v h zero_is = absurd (omega (arith, zero_is))
none_refuses false false false true w e y v h zero_is = absurd (omega (arith, zero_is))
none_refuses false false false false true e y v h zero_is = absurd (omega (arith, zero_is))
none_refuses false false false false false true y v h zero_is = absurd (omega (arith, zero_is))
none_refuses false false false false false false true v h zero_is = absurd (omega (arith, zero_is))
none_refuses false false false false false false false true h zero_is = absurd (omega (arith, zero_is))
none_refuses false false false false false false false false true zero_is = absurd (omega (arith, zero_is))
none_refuses false false false false false false false false false zero_is = (refl, refl, refl, refl, refl, refl, refl, refl, refl)

-- so the rooms hold all that the call is lent
pub all_in_room : (dim limit st en av ad o cs s d v r x pr p h : ℕ)
    → first_of (early_checks (too_large (st / 4) (en / 4) || too_large (o / 4) (cs / 4)) limit (misshapen_preconditioned dim st en av ad o cs s d v r x pr p h)
    ++ preconditioned_lengths dim limit (st / 4) (en / 4) (av / 8) (ad / 8) (o / 4) (cs / 4) (s / 4) (d / 8) (v / 8) (r / 8) (x / 8) (pr / 8) (p / 8) (h / 8)) ≡ 0
    → (HeldMatrix 4096 65535 dim st en av ad) × (HeldFactor 4096 65535 dim o cs s d v) × (HeldVectors dim (limit + 2) r x pr p h)
    × (PreconditionedPassed dim limit (st / 4) (en / 4) (av / 8) (ad / 8) (o / 4) (cs / 4) (s / 4) (d / 8) (v / 8) r x pr p)
all_in_room dim limit st en av ad o cs s d v r x pr p h zero_is =
    let rows = st / 4 - 1 in
    let known = none_refuses (too_large (st / 4) (en / 4) || too_large (o / 4) (cs / 4)) (iterations_out_of_range limit) (misshapen dim st en av ad)
    (misshapen_factor dim o cs s d v || broken_vectors r x pr p h) (wrong_values dim rows (en / 4) (av / 8) (ad / 8)) (not (eqb (o / 4 - 1) rows))
    (wrong_factor dim (o / 4 - 1) (cs / 4) (s / 4) (d / 8) (v / 8)) (wrong_vectors rows dim (r / 8) (x / 8) (pr / 8) (p / 8)) (ltb (h / 8) (limit + 2)) zero_is in
    let small = or_left (too_large (st / 4) (en / 4)) (too_large (o / 4) (cs / 4)) known.0 in
    let small' = or_right (too_large (st / 4) (en / 4)) (too_large (o / 4) (cs / 4)) known.0 in
    let formed = or_left (misshapen_factor dim o cs s d v) (broken_vectors r x pr p h) known.3 in
    let lengths : first_of (matrix_lengths dim (st / 4) (en / 4) (av / 8) (ad / 8)) ≡ 0 = rw (small, known.4) in
    let factor : first_of (byte_checks o cs (misshapen_factor dim o cs s d v || false) ++ factor_lengths dim (o / 4) (cs / 4) (s / 4) (d / 8) (v / 8)) ≡ 0 = rw (small', formed, known.6) in
    let few = limit_most limit known.1 in (
      in_full dim st en av ad known.2 small lengths,
      factor_in_full dim o cs s d v false factor,
      held_vectors dim rows (limit + 2) r x pr p h (range_of dim st en av ad known.2) (or_right (misshapen_factor dim o cs s d v) (broken_vectors r x pr p h) known.3) known.7
          (full_words dim st en av ad known.2 small lengths) (omega (arith, few)) known.8,
      rw (small, small', known.1, known.4, known.5, known.6, known.7, le-ltb (limit + 2) (limit + 2) (omega arith)),
    )

-- ---- the ends of the call: its lengths refuse it, or its words decide

module _ (dim limit : ℕ) (st en av ad o cs s d v : List ℕ) (old : LentBytes) (solution : Solution) (new left : LentBytes) (number : ℕ)
    (first : number ≡ first_of (early_checks (too_large (length st / 4) (length en / 4) || too_large (length o / 4) (length cs / 4)) limit
    (misshapen_preconditioned dim (length st) (length en) (length av) (length ad) (length o) (length cs) (length s) (length d) (length v) (length old.r) (length old.x) (length old.q) (length old.p) (length old.history))
    ++ preconditioned_lengths dim limit (length st / 4) (length en / 4) (length av / 8) (length ad / 8) (length o / 4) (length cs / 4) (length s / 4) (length d / 8) (length v / 8) (length old.r / 8) (length old.x / 8) (length old.q / 8) (length old.p / 8) (length old.history / 8))) where
  told : number ≡ first_of (early_checks (too_large (length st / 4) (length en / 4) || too_large (length o / 4) (length cs / 4)) limit
      (misshapen_preconditioned dim (length st) (length en) (length av) (length ad) (length o) (length cs) (length s) (length d) (length v) (length old.r) (length old.x) (length old.q) (length old.p) (length old.history))
      ++ preconditioned_lengths dim limit (length (indexes_in st)) (length (indexes_in en)) (length (values_in binary64 av)) (length (values_in binary64 ad)) (length (indexes_in o)) (length (indexes_in cs)) (length (indexes_in s)) (length (values_in binary64 d)) (length (values_in binary64 v)) (length (values_in binary64 old.r)) (length (values_in binary64 old.x)) (length (values_in binary64 old.q)) (length (values_in binary64 old.p)) (length (values_in binary64 old.history)))
  told =
      rw (length_indexes st, length_indexes en, length_values binary64 av, length_values binary64 ad, length_indexes o, length_indexes cs, length_indexes s, length_values binary64 d, length_values binary64 v, length_values binary64 old.r, length_values binary64 old.x, length_values binary64 old.q, length_values binary64 old.p, length_values binary64 old.history) first

  pub lengths_refuse : (result : AnswerOf Solution) (why : Refusal) → result ≡ Err why → refusal_number why ≡ number
      → SolveEnds {A = LentBytes} (preconditioned_byte_checks dim limit st en av ad o cs s d v old) solution result new old old
  lengths_refuse result why is same =
      let number_is = same ∙ told in
      rw is (solve_earlier (early_checks (too_large (length st / 4) (length en / 4) || too_large (length o / 4) (length cs / 4)) limit
      (misshapen_preconditioned dim (length st) (length en) (length av) (length ad) (length o) (length cs) (length s) (length d) (length v) (length old.r) (length old.x) (length old.q) (length old.p) (length old.history))
      ++ preconditioned_lengths dim limit (length (indexes_in st)) (length (indexes_in en)) (length (values_in binary64 av)) (length (values_in binary64 ad)) (length (indexes_in o)) (length (indexes_in cs)) (length (indexes_in s)) (length (values_in binary64 d)) (length (values_in binary64 v)) (length (values_in binary64 old.r)) (length (values_in binary64 old.x)) (length (values_in binary64 old.q)) (length (values_in binary64 old.p)) (length (values_in binary64 old.history)))
      (preconditioned_rules (indexes_in st) (indexes_in en) (indexes_in o) (indexes_in cs) (indexes_in s)) solution why new old number_is (λ z. refusal_counts why (number_is ∙ z)))

  pub words_decide : (result : AnswerOf Solution) → 0 ≡ number
      → SolveEnds {A = LentBytes} (preconditioned_rules (indexes_in st) (indexes_in en) (indexes_in o) (indexes_in cs) (indexes_in s)) solution result new old left
      → SolveEnds {A = LentBytes} (preconditioned_byte_checks dim limit st en av ad o cs s d v old) solution result new old left
  words_decide result is end =
      let zero_is = sym (is ∙ told) in
      let checks = early_checks (too_large (length st / 4) (length en / 4) || too_large (length o / 4) (length cs / 4)) limit
      (misshapen_preconditioned dim (length st) (length en) (length av) (length ad) (length o) (length cs) (length s) (length d) (length v) (length old.r) (length old.x) (length old.q) (length old.p) (length old.history))
      ++ preconditioned_lengths dim limit (length (indexes_in st)) (length (indexes_in en)) (length (values_in binary64 av)) (length (values_in binary64 ad)) (length (indexes_in o)) (length (indexes_in cs)) (length (indexes_in s)) (length (values_in binary64 d)) (length (values_in binary64 v)) (length (values_in binary64 old.r)) (length (values_in binary64 old.x)) (length (values_in binary64 old.q)) (length (values_in binary64 old.p)) (length (values_in binary64 old.history)) in
      solve_later checks (preconditioned_rules (indexes_in st) (indexes_in en) (indexes_in o) (indexes_in cs) (indexes_in s)) solution result new old left (none_of_zero checks refl zero_is) end
