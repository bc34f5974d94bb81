-- What a square root is, by IEEE 754: `Root f x r`, r is the value of the format f nearest to the exact root of x, and `Rooted f x r`, the answer for every x.
-- Stated over the natural numbers: a finite value is the fraction num / den, and the root of x is compared with the middle of y and r by squares, 4x with (y + r)².
use Rattle.std.specs.Prelude.{◌≡◌, Bool, true, false, not, ℕ, zero, suc, ◌+◌, ◌*◌, ◌<◌, T, Float}
use Rattle.std.specs.Float.{nan, inf, fin, Format}
use Rattle.std.specs.Float.Ieee.{fits, lt}
use Rattle.std.specs.Float.Ieee.Positive.{num, den, positive}

-- y + r, over den y * den r
abbrev pub sum_of : Float → Float → ℕ
sum_of y r = num y * den r + num r * den y

-- (y + r)², over den x * (den y * den r)²
abbrev pub square_of_sum : Float → Float → Float → ℕ
square_of_sum x y r = sum_of y r * sum_of y r * den x

-- 4x, over the same
abbrev pub four_times : Float → Float → Float → ℕ
four_times x y r = 4 * num x * (den y * den r * (den y * den r))

-- finite, with the sign clear: +0 or above zero
abbrev pub unsigned : Float → Bool
unsigned nan = false
unsigned (inf s) = false
unsigned (fin s m e) = not s

-- Of the values of f, r is the nearest to the root of x: (y + r)² < 4x for every y below r, and 4x < (y + r)² for every y above it.
-- y is finite and has its sign clear, since one below zero is farther from the root than +0 is.
pub record Root (f : Format) (x r : Float) : Type 0 where
  pub held : T (fits f r)
  pub above_zero : T (positive r)
  pub lower : (y : Float) → T (fits f y) → T (unsigned y) → T (lt y r) → square_of_sum x y r < four_times x y r
  pub upper : (y : Float) → T (fits f y) → T (unsigned y) → T (lt r y) → four_times x y r < square_of_sum x y r

-- A NaN and what is below zero give NaN, plus infinity and both zeros give themselves, and a finite number above zero its root.
abbrev pub Rooted : Format → Float → Float → Type 0
Rooted f nan r = r ≡ nan
Rooted f (inf true) r = r ≡ nan
Rooted f (inf false) r = r ≡ inf false
Rooted f (fin s zero e) r = r ≡ fin s zero e
Rooted f (fin true (suc m) e) r = r ≡ nan
Rooted f (fin false (suc m) e) r = Root f (fin false (suc m) e) r
