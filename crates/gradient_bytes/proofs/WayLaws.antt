-- The way from bytes to bytes: the solve of the decoded words is that of the bytes.
-- Assumes nothing.
use mathlib.Core.Path.{◌≡◌, refl}
use mathlib.Core.List.{List, [], ◌∷◌, ◌++◌}
use mathlib.Core.Bool.{Bool, true, false}
use Prim.Native.Nat.{ℕ, ◌-◌, ◌/◌, ◌≤◌}
use lib.ListN.{length}
use lib.Ieee.{Float, binary64}
use Rattle.solvers.specs.declared.Solution.{Solution}
use Rattle.answers.specs.Numbers.{AnswerOf}
use Rattle.answers.specs.Checks.{◌when◌, none_holds}
use Rattle.answers.specs.Limits.{outside_of, iterations_out_of_range}
use Rattle.patterns.specs.Checks.{too_large}
use Rattle.solvers.specs.Method.{matrix_of}
use Rattle.solvers.specs.Checks.{wrong_plain, plain_lengths}
use Rattle.solvers.specs.Promise.{Lent, lent_of, left_by}
use Rattle.gradient.specs.Answers.{solution_of, plain_run}
use Rattle.solve_outcomes.specs.Ends.{early_checks, SolveEnds}
use Rattle.solve_outcomes.proofs.EndLaws.{solve_alone}
use Rattle.numbered_gradient.specs.Calls.{plain_call_checks}
use Rattle.wire.specs.Bytes.{values_in}
use Rattle.wire.specs.Words.{indexes_in}
use Rattle.wire.proofs.ByteLaws.{length_values}
use Rattle.solver_bytes.specs.Lent.{LentBytes, words_lent, matrix_in, bytes_left_by}
use Rattle.solver_bytes.specs.Rooms.{DecodedVectors, count_of, written_back}
use Rattle.solver_bytes.proofs.BackLaws.{written_back_lem, count_fits}
use Rattle.gradient_bytes.specs.Rooms.{PlainPassed, pattern_rule}

none_holds_lem : (large far outside wrong : Bool) → outside ≡ false → none_holds ((1 when large) ∷ (10 when far) ∷ (2 when wrong) ∷ []) ≡ true
    → none_holds ((1 when large) ∷ (10 when far) ∷ (2 when outside) ∷ (1 when large) ∷ (10 when far) ∷ (2 when wrong) ∷ []) ≡ true
none_holds_lem true far outside wrong inside passed = passed
none_holds_lem false true outside wrong inside passed = passed
none_holds_lem false false outside wrong inside passed = rw inside passed

module _ (dim limit : ℕ) (tolerance : Float) (offs cols : List ℕ) (vals diag : List Float) (old : LentBytes) (residual solution product direction numbers : List Float) (result : AnswerOf Solution) (left : Lent)
    (end : SolveEnds {A = Lent} (plain_call_checks dim limit (matrix_of offs cols vals diag) (lent_of residual solution product direction numbers))
    (solution_of binary64 tolerance (plain_run dim limit (matrix_of offs cols vals diag) tolerance (lent_of residual solution product direction numbers)).history) result
    (left_by (plain_run dim limit (matrix_of offs cols vals diag) tolerance (lent_of residual solution product direction numbers)) numbers) (lent_of residual solution product direction numbers) left) where
  -- the numbers that were written fit in the history
  pub numbers_fit : count_of result ≤ length left.history
  numbers_fit =
      let was = lent_of residual solution product direction numbers in
      count_fits (plain_call_checks dim limit (matrix_of offs cols vals diag) was) (plain_run dim limit (matrix_of offs cols vals diag) tolerance was) _ refl result numbers was left end

  pub solved_words : (out : LentBytes) → outside_of 1 3 dim ≡ false
      → PlainPassed dim limit (length offs) (length cols) (length vals) (length diag) (length old.r) (length old.x) (length old.q) (length old.p)
      → DecodedVectors binary64 residual solution product direction old.r old.x old.q old.p → length numbers ≡ limit → out ≡ written_back binary64 result left old
      → SolveEnds {A = LentBytes} (pattern_rule offs cols) (solution_of binary64 tolerance (plain_run dim limit (matrix_of offs cols vals diag) tolerance (words_lent binary64 old)).history) result
      (bytes_left_by binary64 (plain_run dim limit (matrix_of offs cols vals diag) tolerance (words_lent binary64 old)) old.history) old out
  solved_words out inside passed read long wrote =
      let t = plain_run dim limit (matrix_of offs cols vals diag) tolerance (words_lent binary64 old) in
      let words = words_lent binary64 old in
      let was = lent_of words.r words.x words.q words.p numbers in
      let lengths = plain_lengths dim limit (length offs) (length cols) (length vals) (length diag) (length words.r) (length words.x) (length words.q) (length words.p) (length numbers) in
      let early = early_checks (too_large (length offs) (length cols)) limit (outside_of 1 3 dim) in
      let none : none_holds (early ++ lengths) ≡ true =
      rw (length_values binary64 old.r, length_values binary64 old.x, length_values binary64 old.q, length_values binary64 old.p, long)
      (none_holds_lem (too_large (length offs) (length cols)) (iterations_out_of_range limit) (outside_of 1 3 dim)
      (wrong_plain dim limit (length offs - 1) (length cols) (length vals) (length diag) (length old.r / 8) (length old.x / 8) (length old.q / 8) (length old.p / 8) limit) inside passed) in
      let told = rw (read.r_is, read.x_is, read.q_is, read.p_is) at end in
      written_back_lem binary64 (pattern_rule offs cols) t _ refl result numbers was left old out
      (solve_alone (early ++ lengths) (pattern_rule offs cols) _ result (left_by t numbers) was left none told) wrote

-- lengths that are the same
pub passed_at : (dim limit o c v d o' c' v' d' r u ap p : ℕ) → o ≡ o' → c ≡ c' → v ≡ v' → d ≡ d' → PlainPassed dim limit o' c' v' d' r u ap p → PlainPassed dim limit o c v d r u ap p
passed_at dim limit o c v d o' c' v' d' r u ap p eo ec ev ed passed = rw (eo, ec, ev, ed) passed

-- the words of the matrix are those that its bytes hold
pub of_bytes_lem : (dim limit : ℕ) (tolerance : Float) (o c v d : List ℕ) (offs cols : List ℕ) (vals diag : List Float) (old : LentBytes) (result : AnswerOf Solution) (left : LentBytes)
    → offs ≡ indexes_in o → cols ≡ indexes_in c → vals ≡ values_in binary64 v → diag ≡ values_in binary64 d
    → SolveEnds {A = LentBytes} (pattern_rule offs cols) (solution_of binary64 tolerance (plain_run dim limit (matrix_of offs cols vals diag) tolerance (words_lent binary64 old)).history) result
    (bytes_left_by binary64 (plain_run dim limit (matrix_of offs cols vals diag) tolerance (words_lent binary64 old)) old.history) old left
    → SolveEnds {A = LentBytes} (pattern_rule (indexes_in o) (indexes_in c)) (solution_of binary64 tolerance (plain_run dim limit (matrix_in binary64 o c v d) tolerance (words_lent binary64 old)).history) result
    (bytes_left_by binary64 (plain_run dim limit (matrix_in binary64 o c v d) tolerance (words_lent binary64 old)) old.history) old left
of_bytes_lem dim limit tolerance o c v d offs cols vals diag old result left eo ec ev ed end = rw (eo, ec, ev, ed) at end
