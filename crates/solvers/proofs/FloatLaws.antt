-- What a NaN and an infinity do in sums, products, dot products and ratios: nothing makes a finite number of them but a quotient.
-- Assumes nothing.
use mathlib.Core.Path.{◌≡◌, refl, sym, ◌∙◌}
use mathlib.Core.Logic.{⊎_elim}
use mathlib.Core.List.{List}
use mathlib.Core.Bool.{Bool, true, false, beq, cond, true≢false}
use Prim.Native.Nat.{ℕ, zero, suc, ◌+◌, ◌*◌, ◌/◌, ◌%◌, ◌<◌}
use native.Mathlib.Nat.{not-suc-le-zero, le_of_suc-le-suc, eq-or-lt_of_le, div-add-mod, mod-lt, div-lt_iff_lt-mul, mul_comm, mul-zero, zero-mul, zero-add}
use native.Mathlib.Omega.{arith}
use lib.Dec.{eqb, leb-suc-zero}
use lib.IntN.{ℤ, pos}
use lib.ListN.{get_or}
use lib.Ieee.{Float, nan, inf, fin, Format, binary32, binary64, unlike, up, down, span, climb, size, odd, units, round, sum, neg, add, mul, div, below, lt, of_bits}
use lib.Ieee.Fits.{down_pos}
use lib.Ieee.Scale.{round_same, finite}
use Rattle.blocks.specs.Block.{plus_zero, sum_to}
use Rattle.blocks.specs.Inverse.{one}
use Rattle.patterns.specs.Pattern.{rows_of}
use Rattle.vectors.specs.Vectors.{row_dot, dot_to}
use Rattle.root.specs.Sqrt.{sqrt}
use Rattle.solvers.specs.Method.{Matrix, dot_all}

-- ---- a NaN

pub add_nan : (f : Format) (x : Float) → add f x nan ≡ nan
unfolding add
add_nan f nan = refl
add_nan f (inf s) = refl
add_nan f (fin s m e) = refl

pub nan_add : (f : Format) (x : Float) → add f nan x ≡ nan
unfolding add
nan_add f x = refl

pub mul_nan : (f : Format) (x : Float) → mul f x nan ≡ nan
unfolding mul
mul_nan f nan = refl
mul_nan f (inf s) = refl
mul_nan f (fin s m e) = refl

pub div_nan : (f : Format) (x : Float) → div f x nan ≡ nan
unfolding div
div_nan f nan = refl
div_nan f (inf s) = refl
div_nan f (fin s m e) = refl

-- a sum with a NaN among its terms is NaN
sum_nan : (f : Format) (m : ℕ) (term : ℕ → Float) (k : ℕ) → k < m → term k ≡ nan → sum_to f m term ≡ nan
sum_nan f zero term k h e = absurd (not-suc-le-zero h)
sum_nan f (suc m) term k h e =
    ⊎_elim (λ same. rw (← same, e) (add_nan f (sum_to f k term))) (λ less. rw (sum_nan f m term k less e) (nan_add f (term m))) (eq-or-lt_of_le (le_of_suc-le-suc h))

dot_nan : (f : Format) (n : ℕ) (u v : List Float) (rows i : ℕ) → i < rows → row_dot f n u v i ≡ nan → dot_to f n u v rows ≡ nan
unfolding dot_to
dot_nan f n u v zero i h e = absurd (not-suc-le-zero h)
dot_nan f n u v (suc rows) i h e =
    ⊎_elim (λ same. rw (← same, e) (add_nan f (dot_to f n u v i))) (λ less. rw (dot_nan f n u v rows i less e) (nan_add f (row_dot f n u v rows))) (eq-or-lt_of_le (le_of_suc-le-suc h))

-- so the squared norm of a vector with a NaN in one of its rows is NaN
pub square_nan : (f : Format) (n : ℕ) (a : Matrix) (r : List Float) (j : ℕ) → j < n * rows_of a.offsets → get_or r j nan ≡ nan → dot_all f n a r r ≡ nan
unfolding dot_all mul
square_nan f zero a r j h e = absurd (not-suc-le-zero (rw (zero-mul (rows_of a.offsets)) at h))
square_nan f (suc n) a r j h e =
    let rows = rows_of a.offsets in
    let row : j / suc n < rows = (div-lt_iff_lt-mul {k = suc n} {x = j} {y = rows} (omega arith)).1 (rw (mul_comm (suc n) rows) at h) in
    let value : get_or r (suc n * (j / suc n) + j % suc n) nan ≡ nan = rw (div-add-mod j (suc n)) e in
    dot_nan f (suc n) r r rows (j / suc n) row (sum_nan f (suc n) _ (j % suc n) (mod-lt j (omega arith)) (rw value))

-- ---- what is not finite: a NaN or an infinity

pub finite_add_left : (f : Format) (x y : Float) → finite x ≡ false → finite (add f x y) ≡ false
unfolding add
finite_add_left f nan y e = refl
finite_add_left f (inf s) nan e = refl
finite_add_left f (inf s) (inf u) e = either (beq s u) s
  where
    either : (b s : Bool) → finite (cond b (inf s) nan) ≡ false
    either true s = refl
    either false s = refl
finite_add_left f (inf s) (fin u n d) e = refl
finite_add_left f (fin s m d) y e = absurd (true≢false e)

pub finite_add_right : (f : Format) (x y : Float) → finite y ≡ false → finite (add f x y) ≡ false
unfolding add
finite_add_right f nan y e = refl
finite_add_right f (inf s) y e = finite_add_left f (inf s) y refl
finite_add_right f (fin s m d) nan e = refl
finite_add_right f (fin s m d) (inf u) e = refl
finite_add_right f (fin s m d) (fin u n c) e = absurd (true≢false e)

nan_or_inf : (b s : Bool) → finite (cond b nan (inf s)) ≡ false
nan_or_inf true s = refl
nan_or_inf false s = refl

pub finite_mul : (f : Format) (x y : Float) → finite y ≡ false → finite (mul f x y) ≡ false
unfolding mul
finite_mul f nan y e = refl
finite_mul f (inf s) nan e = refl
finite_mul f (inf s) (inf u) e = refl
finite_mul f (fin s m d) nan e = refl
finite_mul f (fin s m d) (inf u) e = nan_or_inf (eqb m 0) (unlike s u)
finite_mul f (inf s) (fin u n c) e = absurd (true≢false e)
finite_mul f (fin s m d) (fin u n c) e = absurd (true≢false e)

pub finite_div : (f : Format) (x y : Float) → finite x ≡ false → finite (div f x y) ≡ false
unfolding div
finite_div f nan y e = refl
finite_div f (inf s) nan e = refl
finite_div f (inf s) (inf u) e = refl
finite_div f (inf s) (fin u n d) e = refl
finite_div f (fin s m d) y e = absurd (true≢false e)

pub finite_neg : (x : Float) → finite (neg x) ≡ finite x
unfolding neg
finite_neg nan = refl
finite_neg (inf s) = refl
finite_neg (fin s m e) = refl

-- the squared norm of a vector without a finite value, unless it has no value
pub square_infinite : (f : Format) (n : ℕ) (a : Matrix) (r : List Float) → 0 < n → 0 < rows_of a.offsets → ((j : ℕ) → finite (get_or r j nan) ≡ false) → finite (dot_all f n a r r) ≡ false
unfolding dot_all dot_to
square_infinite f n a r places rows none = whole (rows_of a.offsets) rows
  where
    value : (j : ℕ) → finite (mul f (get_or r j nan) (get_or r j nan)) ≡ false
    value j = finite_mul f (get_or r j nan) (get_or r j nan) (none j)

    row : (n k i : ℕ) → 0 < k → finite (sum_to f k (λ c. mul f (get_or r (n * i + c) nan) (get_or r (n * i + c) nan))) ≡ false
    row n zero i h = absurd (not-suc-le-zero h)
    row n (suc k) i h = finite_add_right f _ _ (value (n * i + k))

    whole : (rows : ℕ) → 0 < rows → finite (dot_to f n r r rows) ≡ false
    whole zero h = absurd (not-suc-le-zero h)
    whole (suc rows) h = finite_add_right f (dot_to f n r r rows) _ (row n n rows places)

-- ---- +0

pub zero_is : (f : Format) → plus_zero f ≡ fin false 0 (pos 0)
unfolding of_bits odd
zero_is binary32 = refl
zero_is binary64 = refl

zero_twice : (f : Format) → add f (plus_zero f) (plus_zero f) ≡ plus_zero f
unfolding of_bits odd add sum round units size span climb
zero_twice binary32 = refl
zero_twice binary64 = refl

-- a dot product over no places is +0
pub no_places : (f : Format) (u v : List Float) (rows : ℕ) → dot_to f 0 u v rows ≡ plus_zero f
unfolding dot_to
no_places f u v zero = refl
no_places f u v (suc rows) = rw (no_places f u v rows) (zero_twice f)

-- 1 over infinity
pub inverse_inf : (f : Format) → div f (one f) (inf false) ≡ plus_zero f
unfolding div of_bits odd
inverse_inf binary32 = refl
inverse_inf binary64 = refl

round_zero : (f : Format) (s : Bool) → round f s 0 1 ≡ fin s 0 (pos 0)
unfolding round units size span climb odd
round_zero binary32 true = refl
round_zero binary32 false = refl
round_zero binary64 true = refl
round_zero binary64 false = refl

-- what is finite times +0 is a zero, and what is not is NaN
times_zero : (f : Format) (s : Bool) (m : ℕ) (e : ℤ) → mul f (fin s m e) (fin false 0 (pos 0)) ≡ fin (unlike s false) 0 (pos 0)
unfolding mul
times_zero f s m e =
    let none : m * up e * 0 ≡ 0 = mul-zero (m * up e) in
    let none_more : 0 * (down e * 1) ≡ 0 = zero-mul (down e * 1) in
    round_same f (unlike s false) (m * up e * 0) (down e * 1) 0 1 (omega (arith, down_pos e)) (omega arith) (omega (arith, none, none_more)) ∙ round_zero f (unlike s false)

pub infinite_times_zero : (f : Format) (x : Float) → finite x ≡ false → mul f x (fin false 0 (pos 0)) ≡ nan
unfolding mul
infinite_times_zero f nan e = refl
infinite_times_zero f (inf s) e = refl
infinite_times_zero f (fin s m d) e = absurd (true≢false e)

-- -0 compares as +0 does
lt_zero : (s : Bool) (y : Float) → lt (fin s 0 (pos 0)) y ≡ lt (fin false 0 (pos 0)) y
unfolding lt
lt_zero s nan = refl
lt_zero s (inf u) = refl
lt_zero false (fin u n d) = refl
lt_zero true (fin u n d) = rw (zero-mul (down d)) (go u (n * up d * 1))
  where
    go : (u : Bool) (b : ℕ) → below true 0 u b ≡ below false 0 u b
    go true b = leb-suc-zero b
    go false b = rw zero-add

-- the ratio to an infinite norm: that of a finite norm compares as +0 does, and any other is NaN
pub finite_ratio : (f : Format) (x tolerance : Float) → finite x ≡ true → lt (sqrt f (mul f x (fin false 0 (pos 0)))) tolerance ≡ lt (fin false 0 (pos 0)) tolerance
unfolding sqrt
finite_ratio f nan tolerance e = absurd (true≢false (sym e))
finite_ratio f (inf s) tolerance e = absurd (true≢false (sym e))
finite_ratio f (fin s m d) tolerance e = rw (times_zero f s m d) (lt_zero (unlike s false) tolerance)

pub infinite_ratio : (f : Format) (x : Float) → finite x ≡ false → sqrt f (mul f x (fin false 0 (pos 0))) ≡ nan
unfolding sqrt
infinite_ratio f x e = rw (infinite_times_zero f x e)
