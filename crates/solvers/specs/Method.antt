-- Document 01's cg, as far as both methods share it: what a run changes, a step, and a run of at most `limit` steps with an early stop, which yields its history as a list.
-- At any format f and any N. Definitions only.
use Rattle.std.specs.Prelude.{List, [], ◌∷◌, Bool, true, false, cond, ℕ, zero, suc, Float}
use Rattle.std.specs.Float.{Format}
use Rattle.std.specs.Float.Ieee.{mul, div, neg}
use Rattle.blocks.specs.Block.{plus_zero}
use Rattle.blocks.specs.Inverse.{one}
use Rattle.patterns.specs.Pattern.{rows_of}
use Rattle.vectors.specs.Vectors.{add_scaled, dot_to}
use Rattle.matrix.specs.Product.{mult_vec}
use Rattle.root.specs.Sqrt.{sqrt}

-- a matrix as it is lent
pub record Matrix : Type 0 where
  pub offsets : List ℕ
  pub columns : List ℕ
  pub values : List Float
  pub diagonal : List Float

abbrev pub matrix_of : List ℕ → List ℕ → List Float → List Float → Matrix
matrix_of offsets columns values diagonal = record { offsets = offsets; columns = columns; values = values; diagonal = diagonal }

-- what a run changes: the residual r, the solution x, the vector q that holds A p or P r, the direction p, and rho, which a step's length is worked out from: r·r, or r·P r
pub record State : Type 0 where
  pub r : List Float
  pub x : List Float
  pub q : List Float
  pub p : List Float
  pub rho : Float

abbrev pub state_of : List Float → List Float → List Float → List Float → Float → State
state_of r x q p rho = record { r = r; x = x; q = q; p = p; rho = rho }

-- the dot product over all rows
unfoldable pub dot_all : Format → ℕ → Matrix → List Float → List Float → Float
dot_all f n a u v = dot_to f n u v (rows_of a.offsets)

-- A p in the place of q, which is multiplied by 0 first
unfoldable pub product_of : Format → ℕ → Matrix → List Float → List Float → List Float
product_of f n a p q = mult_vec f n a.offsets a.columns a.values a.diagonal (plus_zero f) (one f) p q

-- a step along p: alpha = rho / (p·A p), x + alpha p, r - alpha A p
unfoldable pub moved : Format → ℕ → Matrix → State → State
moved f n a s =
    let q = product_of f n a s.p s.q in
    let alpha = div f s.rho (dot_all f n a s.p q) in
    record { r = add_scaled f (neg alpha) q s.r; x = add_scaled f alpha s.p s.x; q = q; p = s.p; rho = s.rho }

-- the squared norm of the residual, its norm, and the ratio of that to the first one, where `inverse` is 1 over the first squared norm
unfoldable pub squared : Format → ℕ → Matrix → State → Float
squared f n a s = dot_all f n a s.r s.r

unfoldable pub norm : Format → ℕ → Matrix → State → Float
norm f n a s = sqrt f (squared f n a s)

unfoldable pub ratio : Format → ℕ → Matrix → Float → State → Float
ratio f n a inverse s = sqrt f (mul f (squared f n a s) inverse)

-- a method: what a step makes of the state, the number that it adds to the history, whether it is the last one, and the state with the next direction
pub record Method : Type 0 where
  pub move : State → State
  pub note : State → Float
  pub stop : State → Bool
  pub renew : State → State

-- where a run ends: what it leaves, its history in order, and whether it was ended by a step that is the last one
pub record Run : Type 0 where
  pub end : State
  pub history : List Float
  pub stopped : Bool

-- a number, and then a run
abbrev pub noted : Float → Run → Run
noted number later = record { end = later.end; history = number ∷ later.history; stopped = later.stopped }

-- at most `limit` steps
unfoldable pub run : Method → ℕ → State → Run
run m zero s = record { end = s; history = []; stopped = false }
run m (suc limit) s =
    let t = m.move s in
    cond (m.stop t) (record { end = t; history = m.note t ∷ []; stopped = true }) (noted (m.note t) (run m limit (m.renew t)))
