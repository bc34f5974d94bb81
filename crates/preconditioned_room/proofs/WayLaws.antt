-- The way from bytes to bytes: the solve of the decoded words is that of the bytes.
-- Assumes nothing.
use mathlib.Core.Path.{◌≡◌, refl}
use mathlib.Core.List.{List, [], ◌∷◌, ◌++◌}
use mathlib.Core.Bool.{Bool, true, false, ◌||◌}
use Prim.Native.Nat.{ℕ, ◌+◌, ◌-◌, ◌/◌, ◌≤◌}
use lib.ListN.{length}
use lib.Ieee.{Float, binary64}
use Rattle.solvers.specs.declared.Solution.{Solution}
use Rattle.answers.specs.Numbers.{AnswerOf}
use Rattle.answers.specs.Checks.{◌when◌, none_holds}
use Rattle.answers.specs.Limits.{outside_of, iterations_out_of_range}
use Rattle.patterns.specs.Checks.{too_large}
use Rattle.solvers.specs.Method.{Matrix, matrix_of}
use Rattle.solvers.specs.Solvers.{Factor, factor_as}
use Rattle.solvers.specs.Checks.{wrong_preconditioned, preconditioned_lengths, preconditioned_rules}
use Rattle.solvers.specs.Promise.{Lent, lent_of, left_by}
use Rattle.preconditioned_gradient.specs.Answers.{solution_of, preconditioned_run}
use Rattle.solve_outcomes.specs.Ends.{early_checks, SolveEnds}
use Rattle.solve_outcomes.proofs.EndLaws.{solve_alone}
use Rattle.numbered_preconditioned.specs.Calls.{preconditioned_call_checks}
use Rattle.wire.specs.Bytes.{values_in}
use Rattle.wire.specs.Words.{indexes_in}
use Rattle.wire.proofs.ByteLaws.{length_values}
use Rattle.factor_bytes.specs.Rooms.{Decoded}
use Rattle.solver_bytes.specs.Lent.{LentBytes, words_lent, matrix_in, bytes_left_by}
use Rattle.solver_bytes.specs.Rooms.{DecodedVectors, count_of, written_back}
use Rattle.solver_bytes.proofs.BackLaws.{written_back_lem, count_fits}
use Rattle.preconditioned_room.specs.Rooms.{factor_in, PreconditionedPassed}

none_holds_lem : (large far outside wrong : Bool) → outside ≡ false → none_holds ((1 when large) ∷ (10 when far) ∷ (2 when wrong) ∷ []) ≡ true
    → none_holds ((1 when large) ∷ (10 when far) ∷ (2 when outside) ∷ (1 when large) ∷ (10 when far) ∷ (2 when wrong) ∷ []) ≡ true
none_holds_lem true far outside wrong inside passed = passed
none_holds_lem false true outside wrong inside passed = passed
none_holds_lem false false outside wrong inside passed = rw inside passed

-- whether an end with these words is that of the call
abbrev pub Solved : ℕ → ℕ → Float → Matrix → Factor → LentBytes → AnswerOf Solution → LentBytes → Type 0
Solved dim limit tolerance a g old result left =
    SolveEnds {A = LentBytes} (preconditioned_rules a.offsets a.columns g.pattern.offsets g.pattern.columns g.pattern.splits)
    (solution_of binary64 limit (preconditioned_run dim limit a g tolerance (words_lent binary64 old)).history) result
    (bytes_left_by binary64 (preconditioned_run dim limit a g tolerance (words_lent binary64 old)) old.history) old left

module _ (dim limit : ℕ) (tolerance : Float) (heads cells : List ℕ) (blocks pivots : List Float) (offs cols cuts : List ℕ) (diag vals : List Float) (old : LentBytes)
    (residual solution product direction numbers : List Float) (result : AnswerOf Solution) (left : Lent)
    (end : SolveEnds {A = Lent} (preconditioned_call_checks dim limit (matrix_of heads cells blocks pivots) (factor_as offs cols cuts diag vals) (lent_of residual solution product direction numbers))
    (solution_of binary64 limit (preconditioned_run dim limit (matrix_of heads cells blocks pivots) (factor_as offs cols cuts diag vals) tolerance (lent_of residual solution product direction numbers)).history) result
    (left_by (preconditioned_run dim limit (matrix_of heads cells blocks pivots) (factor_as offs cols cuts diag vals) tolerance (lent_of residual solution product direction numbers)) numbers)
    (lent_of residual solution product direction numbers) left) where
  -- the numbers that were written fit in the history
  pub numbers_fit : count_of result ≤ length left.history
  numbers_fit =
      let was = lent_of residual solution product direction numbers in
      count_fits (preconditioned_call_checks dim limit (matrix_of heads cells blocks pivots) (factor_as offs cols cuts diag vals) was)
      (preconditioned_run dim limit (matrix_of heads cells blocks pivots) (factor_as offs cols cuts diag vals) tolerance was) _ refl result numbers was left end

  pub solved_words : (out : LentBytes) → outside_of 1 3 dim ≡ false
      → PreconditionedPassed dim limit (length heads) (length cells) (length blocks) (length pivots) (length offs) (length cols) (length cuts) (length diag) (length vals)
      (length old.r) (length old.x) (length old.q) (length old.p)
      → DecodedVectors binary64 residual solution product direction old.r old.x old.q old.p → length numbers ≡ limit + 2 → out ≡ written_back binary64 result left old
      → Solved dim limit tolerance (matrix_of heads cells blocks pivots) (factor_as offs cols cuts diag vals) old result out
  solved_words out inside passed read long wrote =
      let t = preconditioned_run dim limit (matrix_of heads cells blocks pivots) (factor_as offs cols cuts diag vals) tolerance (words_lent binary64 old) in
      let words = words_lent binary64 old in
      let was = lent_of words.r words.x words.q words.p numbers in
      let large = too_large (length heads) (length cells) || too_large (length offs) (length cols) in
      let lengths =
      preconditioned_lengths dim limit (length heads) (length cells) (length blocks) (length pivots) (length offs) (length cols) (length cuts) (length diag) (length vals) (length words.r) (length words.x)
      (length words.q) (length words.p) (length numbers) in
      let early = early_checks large limit (outside_of 1 3 dim) in
      let none : none_holds (early ++ lengths) ≡ true =
      rw (length_values binary64 old.r, length_values binary64 old.x, length_values binary64 old.q, length_values binary64 old.p, long)
      (none_holds_lem large (iterations_out_of_range limit) (outside_of 1 3 dim)
      (wrong_preconditioned dim limit (length heads - 1) (length cells) (length blocks) (length pivots) (length offs - 1) (length cols) (length cuts) (length diag) (length vals) (length old.r / 8)
      (length old.x / 8) (length old.q / 8) (length old.p / 8) (limit + 2)) inside passed) in
      let told = rw (read.r_is, read.x_is, read.q_is, read.p_is) at end in
      let rules = preconditioned_rules heads cells offs cols cuts in
      written_back_lem binary64 rules t _ refl result numbers was left old out
      (solve_alone (early ++ lengths) rules _ result (left_by t numbers) was left none told) wrote

-- lengths that are the same: of the matrix, and of the factor
pub matrix_at : (dim limit h c b d o cs s g v r x pr p h' c' b' d' : ℕ) → h ≡ h' → c ≡ c' → b ≡ b' → d ≡ d' → PreconditionedPassed dim limit h' c' b' d' o cs s g v r x pr p
    → PreconditionedPassed dim limit h c b d o cs s g v r x pr p
matrix_at dim limit h c b d o cs s g v r x pr p h' c' b' d' eh ec eb ed passed = rw (eh, ec, eb, ed) passed

pub factor_at : (dim limit h c b d o cs s g v r x pr p o' cs' s' g' v' : ℕ) → o ≡ o' → cs ≡ cs' → s ≡ s' → g ≡ g' → v ≡ v' → PreconditionedPassed dim limit h c b d o' cs' s' g' v' r x pr p
    → PreconditionedPassed dim limit h c b d o cs s g v r x pr p
factor_at dim limit h c b d o cs s g v r x pr p o' cs' s' g' v' eo ec es eg ev passed = rw (eo, ec, es, eg, ev) passed

-- the words are those that the bytes hold
pub factor_of_bytes : (dim limit : ℕ) (tolerance : Float) (a : Matrix) (o c s d v : List ℕ) (offs cols cuts : List ℕ) (diag vals : List Float) (old : LentBytes) (result : AnswerOf Solution) (left : LentBytes)
    → Decoded binary64 offs cols cuts diag vals o c s d v → Solved dim limit tolerance a (factor_as offs cols cuts diag vals) old result left → Solved dim limit tolerance a (factor_in binary64 o c s d v) old result left
factor_of_bytes dim limit tolerance a o c s d v offs cols cuts diag vals old result left read end =
    rw (read.offsets_are, read.columns_are, read.splits_are, read.diagonal_is, read.values_are) at end

pub matrix_of_bytes : (dim limit : ℕ) (tolerance : Float) (g : Factor) (st en av ad : List ℕ) (heads cells : List ℕ) (blocks pivots : List Float) (old : LentBytes) (result : AnswerOf Solution) (left : LentBytes)
    → heads ≡ indexes_in st → cells ≡ indexes_in en → blocks ≡ values_in binary64 av → pivots ≡ values_in binary64 ad → Solved dim limit tolerance (matrix_of heads cells blocks pivots) g old result left
    → Solved dim limit tolerance (matrix_in binary64 st en av ad) g old result left
matrix_of_bytes dim limit tolerance g st en av ad heads cells blocks pivots old result left eh ec eb ep end = rw (eh, ec, eb, ep) at end
