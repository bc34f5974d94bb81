-- What the verdict theorem speaks of: the steps of a solve by their numbers, the ratio of each, and the count and verdict that are answered.
-- Definitions only.
use Rattle.std.specs.Prelude.{◌≡◌, List, [], ◌∷◌, ◌++◌, Bool, true, false, ℕ, zero, suc, ◌<◌, length, Float}
use Rattle.std.specs.Float.{Format}
use Rattle.std.specs.Float.Ieee.{div, lt}
use Rattle.std.specs.Float.Ieee.Scale.{finite}
use Rattle.blocks.specs.Block.{plus_zero}
use Rattle.blocks.specs.Inverse.{one}
use Rattle.vectors.specs.Vectors.{zeroed, copied}
use Rattle.solvers.specs.declared.Verdict.{Verdict}
use Rattle.solvers.specs.Method.{Matrix, State, state_of, dot_all, squared, norm, ratio, Method, Run}
use Rattle.solvers.specs.Solvers.{epsilon, plain, conjugate_gradient, Factor, preconditioned, by_factor, preconditioned_gradient}
use Rattle.solvers.specs.Verdict.{preconditioned_verdict, plain_verdict, last_of}

-- What a solve is given: N, the matrix, the tolerance, the limit, the right side r, and the vectors that it writes, of which q is Ap or Pr.
pub record Problem : Type 0 where
  pub format : Format
  pub width : ℕ
  pub matrix : Matrix
  pub tolerance : Float
  pub limit : ℕ
  pub r : List Float
  pub x : List Float
  pub q : List Float
  pub p : List Float

-- the squared norm of the right side, and 1 over it
unfoldable pub first_square : Problem → Float
first_square t = dot_all t.format t.width t.matrix t.r t.r

unfoldable pub first_inverse : Problem → Float
first_inverse t = div t.format (one t.format) (first_square t)

-- whether the squared norm of the right side is below epsilon
abbrev pub below_epsilon : Problem → Bool
below_epsilon t = lt (first_square t) (epsilon t.format)

-- whether the tolerance is above zero
abbrev pub above_zero : Problem → Bool
above_zero t = lt (plus_zero t.format) t.tolerance

-- the state before step k + 1 where no earlier step was the last one, and the state after step k + 1
unfoldable pub before : Method → State → ℕ → State
before m s zero = s
before m s (suc k) = m.renew (m.move (before m s k))

abbrev pub stepped : Method → State → ℕ → State
stepped m s k = m.move (before m s k)

-- a test of the numbers below the limit passes at k, and at none before k
pub record First (limit : ℕ) (test : ℕ → Bool) (k : ℕ) : Type 0 where
  pub within : k < limit
  pub passes : test k ≡ true
  pub earliest : (i : ℕ) → i < k → test i ≡ false

-- it passes at some of them
abbrev pub Some : ℕ → (ℕ → Bool) → Type 0
Some limit test = (k : ℕ) × ((k < limit) × (test k ≡ true))

-- it passes at none of them
abbrev pub None : ℕ → (ℕ → Bool) → Type 0
None limit test = (k : ℕ) → k < limit → test k ≡ false

-- a history ends with the norm of the residual that is left, twice
abbrev pub EndsTwice : Problem → Run → Type 0
EndsTwice t u =
    let x = norm t.format t.width t.matrix u.end in
    (front : List Float) × (u.history ≡ front ++ (x ∷ x ∷ []))

-- preconditioned: the method, and the state before the first step
abbrev pub factor_method : Factor → Problem → Method
factor_method g t = by_factor t.format t.width t.matrix g t.tolerance (first_inverse t)

abbrev pub factor_start : Factor → Problem → State
factor_start g t =
    let z = preconditioned t.format t.width g t.r t.q in
    state_of t.r (zeroed t.format t.x) z (copied z t.p) (dot_all t.format t.width t.matrix t.r z)

-- the squared norm that step k + 1 leaves, its ratio, and whether that is below the tolerance
unfoldable pub factor_square : Factor → Problem → ℕ → Float
factor_square g t k = squared t.format t.width t.matrix (stepped (factor_method g t) (factor_start g t) k)

unfoldable pub factor_ratio : Factor → Problem → ℕ → Float
factor_ratio g t k = ratio t.format t.width t.matrix (first_inverse t) (stepped (factor_method g t) (factor_start g t) k)

abbrev pub factor_below : Factor → Problem → ℕ → Bool
factor_below g t k = lt (factor_ratio g t k) t.tolerance

-- whether the squared norm that it leaves is a number, neither infinite nor NaN
abbrev pub factor_finite : Factor → Problem → ℕ → Bool
factor_finite g t k = finite (factor_square g t k)

-- where the solve ends, and what is answered of its history
abbrev pub factor_run : Factor → Problem → Run
factor_run g t = preconditioned_gradient t.format t.width t.matrix g t.tolerance t.limit t.r t.x t.q t.p

unfoldable pub factor_count : Factor → Problem → ℕ
factor_count g t = length (factor_run g t).history

unfoldable pub factor_answer : Factor → Problem → Verdict
unfolding factor_count
factor_answer g t = preconditioned_verdict t.limit (factor_count g t)

-- plain: the same
abbrev pub plain_method : Problem → Method
plain_method t = plain t.format t.width t.matrix t.tolerance (first_inverse t)

abbrev pub plain_start : Problem → State
plain_start t = state_of t.r (zeroed t.format t.x) t.q (copied t.r t.p) (first_square t)

unfoldable pub plain_ratio : Problem → ℕ → Float
plain_ratio t k = ratio t.format t.width t.matrix (first_inverse t) (stepped (plain_method t) (plain_start t) k)

abbrev pub plain_below : Problem → ℕ → Bool
plain_below t k = lt (plain_ratio t k) t.tolerance

abbrev pub plain_run : Problem → Run
plain_run t = conjugate_gradient t.format t.width t.matrix t.tolerance t.limit t.r t.x t.q t.p

unfoldable pub plain_count : Problem → ℕ
plain_count t = length (plain_run t).history

unfoldable pub plain_answer : Problem → Verdict
unfolding plain_count
plain_answer t = plain_verdict t.tolerance (plain_count t) (last_of t.format (plain_run t).history)
