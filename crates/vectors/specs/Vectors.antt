-- Document 01's vtx2xn, and `set_fix_dof_to_rhs_vector`: what becomes of each value of a vector, and the dot product, at any format f.
-- Definitions only.
use Rattle.std.specs.Prelude.{List, Bool, true, not, cond, ℕ, zero, suc, ◌+◌, ◌*◌, eqb, ℤ, pos, negsuc, get_or, Float}
use Rattle.std.specs.Float.{Format, nan}
use Rattle.std.specs.Float.Ieee.{add, mul}
use Rattle.base.specs.Each.{each}
use Rattle.blocks.specs.Block.{plus_zero, sum_to}

-- set_zero: each value becomes +0
unfoldable pub zero_at : Format → ℕ → Float → Float
zero_at f k x = plus_zero f

unfoldable pub zeroed : Format → List Float → List Float
zeroed f p = each (zero_at f) p

-- copy: value k becomes value k of u
unfoldable pub copy_at : List Float → ℕ → Float → Float
copy_at u k x = get_or u k nan

unfoldable pub copied : List Float → List Float → List Float
copied u p = each (copy_at u) p

-- add_scaled_vector: u + p * alpha
unfoldable pub add_scaled_at : Format → Float → List Float → ℕ → Float → Float
add_scaled_at f alpha p k x = add f x (mul f (get_or p k nan) alpha)

unfoldable pub add_scaled : Format → Float → List Float → List Float → List Float
add_scaled f alpha p u = each (add_scaled_at f alpha p) u

-- scale_and_add_vec: r + p * beta
unfoldable pub scale_add_at : Format → Float → List Float → ℕ → Float → Float
scale_add_at f beta r k x = add f (get_or r k nan) (mul f x beta)

unfoldable pub scale_add : Format → Float → List Float → List Float → List Float
scale_add f beta r p = each (scale_add_at f beta r) p

-- scaling: y * beta, also where beta is 0
unfoldable pub scale_at : Format → Float → ℕ → Float → Float
scale_at f beta k x = mul f x beta

unfoldable pub scaled_by : Format → Float → List Float → List Float
scaled_by f beta y = each (scale_at f beta) y

-- any nonzero flag fixes
abbrev pub fixes : ℤ → Bool
fixes (pos m) = not (eqb m 0)
fixes (negsuc m) = true

-- what a flag leaves of a value: +0 if it fixes
abbrev pub kept_by : Format → ℤ → Float → Float
kept_by f flag x = cond (fixes flag) (plus_zero f) x

-- set_fixed and set_fix_dof_to_rhs_vector: +0 at each fixed value, all else stays
unfoldable pub fix_at : Format → List ℤ → ℕ → Float → Float
fix_at f flags k x = kept_by f (get_or flags k (pos 0)) x

unfoldable pub fixed : Format → List ℤ → List Float → List Float
fixed f flags values = each (fix_at f flags) values

-- row i's own sum: from +0, in rising index
abbrev pub row_dot : Format → ℕ → List Float → List Float → ℕ → Float
row_dot f n u v i = sum_to f n (λ k. mul f (get_or u (n * i + k) nan) (get_or v (n * i + k) nan))

-- the running sum over the first rows: from +0, each row's own sum is added
unfoldable pub dot_to : Format → ℕ → List Float → List Float → ℕ → Float
dot_to f n u v zero = plus_zero f
dot_to f n u v (suc i) = add f (dot_to f n u v i) (row_dot f n u v i)
