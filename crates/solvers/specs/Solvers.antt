-- Document 01's `conjugate_gradient` and `preconditioned_conjugate_gradient`: where each of them ends, from what is lent to it.
-- At any format f and any N. Definitions only.
use Rattle.std.specs.Prelude.{List, [], ◌∷◌, ◌++◌, Bool, false, cond, ℕ, ◌-◌, negsuc, Float}
use Rattle.std.specs.Float.{fin, Format}
use Rattle.std.specs.Float.Ieee.{prec, div, lt}
use Rattle.blocks.specs.Inverse.{one}
use Rattle.vectors.specs.Vectors.{zeroed, copied, scale_add}
use Rattle.factors.specs.Factor.{FactorPattern, FactorValues}
use Rattle.factors.specs.Solve.{solve}
use Rattle.root.specs.Sqrt.{sqrt}
use Rattle.solvers.specs.Method.{Matrix, State, state_of, dot_all, moved, squared, norm, ratio, Method, Run, run}

-- the tolerance type's epsilon: 2^-52 in binary64
abbrev pub epsilon : Format → Float
epsilon f = fin false 1 (negsuc (prec f - 2))

-- "below epsilon the solution is zeroed; r, p, Ap and Pr stay"
abbrev pub left_alone : Format → List Float → List Float → List Float → List Float → Float → State
left_alone f r x q p square = state_of r (zeroed f x) q p square

-- whether a step's ratio is below the tolerance
unfoldable pub is_settled : Format → ℕ → Matrix → Float → Float → State → Bool
is_settled f n a tolerance inverse s = lt (ratio f n a inverse s) tolerance

-- plain: p = r + beta p, with beta = (new r·r) / (old r·r)
unfoldable pub turned : Format → ℕ → Matrix → State → State
turned f n a s =
    let square = squared f n a s in
    record { r = s.r; x = s.x; q = s.q; p = scale_add f (div f square s.rho) s.r s.p; rho = square }

-- its history holds ratios
abbrev pub plain : Format → ℕ → Matrix → Float → Float → Method
plain f n a tolerance inverse =
    record { move = moved f n a; note = ratio f n a inverse; stop = is_settled f n a tolerance inverse; renew = turned f n a }

-- u = 0 and p = r, then the steps; below epsilon the history is empty
unfoldable pub conjugate_gradient : Format → ℕ → Matrix → Float → ℕ → List Float → List Float → List Float → List Float → Run
conjugate_gradient f n a tolerance limit r u ap p =
    let square = dot_all f n a r r in
    cond (lt square (epsilon f)) (record { end = left_alone f r u ap p square; history = []; stopped = false })
    (run (plain f n a tolerance (div f (one f) square)) limit (state_of r (zeroed f u) ap (copied r p) square))

-- a factor as it is lent
pub record Factor : Type 0 where
  pub pattern : FactorPattern
  pub values : FactorValues

abbrev pub factor_as : List ℕ → List ℕ → List ℕ → List Float → List Float → Factor
factor_as offsets columns splits diagonal values =
    record { pattern = record { offsets = offsets; columns = columns; splits = splits }; values = record { diagonal = diagonal; values = values } }

-- P r in the place of q
unfoldable pub preconditioned : Format → ℕ → Factor → List Float → List Float → List Float
preconditioned f n g r q = solve f n g.pattern g.values (copied r q)

-- preconditioned: p = P r + beta p, with beta = (new r·P r) / (old r·P r)
unfoldable pub redirected : Format → ℕ → Matrix → Factor → State → State
redirected f n a g s =
    let z = preconditioned f n g s.r s.q in
    let rho = dot_all f n a s.r z in
    record { r = s.r; x = s.x; q = z; p = scale_add f (div f rho s.rho) z s.p; rho = rho }

-- its history holds norms
abbrev pub by_factor : Format → ℕ → Matrix → Factor → Float → Float → Method
by_factor f n a g tolerance inverse =
    record { move = moved f n a; note = norm f n a; stop = is_settled f n a tolerance inverse; renew = redirected f n a g }

-- the norm before the first step comes first, and the last norm is written once more if no step was the last one
abbrev pub with_norms : Format → ℕ → Matrix → Float → Run → Run
with_norms f n a first steps =
    record { end = steps.end; history = first ∷ (steps.history ++ cond steps.stopped [] (norm f n a steps.end ∷ [])); stopped = steps.stopped }

-- x = 0 and p = P r, then the steps; below epsilon the history is one norm
unfoldable pub preconditioned_gradient : Format → ℕ → Matrix → Factor → Float → ℕ → List Float → List Float → List Float → List Float → Run
preconditioned_gradient f n a g tolerance limit r x pr p =
    let square = dot_all f n a r r in
    let z = preconditioned f n g r pr in
    cond (lt square (epsilon f)) (record { end = left_alone f r x pr p square; history = sqrt f square ∷ []; stopped = false })
    (with_norms f n a (sqrt f square) (run (by_factor f n a g tolerance (div f (one f) square)) limit (state_of r (zeroed f x) z (copied z p) (dot_all f n a r z))))
