-- Values that are alike stay so in sums and products, and one that is no zero is the same. A sum from +0 is like one that begins with its first term.
-- Assumes nothing.
use mathlib.Core.Path.{◌≡◌, refl, sym, ap, ◌∙◌, subst}
use mathlib.Core.Bool.{Bool, true, false, true≢false}
use Prim.Native.Nat.{ℕ, zero, suc, ◌+◌, ◌*◌, ◌^◌, ◌≤◌, ◌<◌}
use native.Mathlib.Nat.{mul-one, one-mul, zero-mul, zero-add, add-zero, sub-zero, mul-pos, zero-lt-suc}
use native.Mathlib.Omega.{arith}
use lib.IntN.{ℤ, pos}
use lib.Dec.{T}
use lib.Pow.{pow_pos}
use borrow.Author.Tests.{lt-ltb, le-ltb}
use lib.Ieee.{Float, nan, inf, fin, Format, binary32, binary64, unlike, prec, emax, low, up, down, round, sum, add, mul, eq, fits, of_bits}
use lib.Ieee.Fits.{down_pos, up_pos, round-fits}
use lib.Ieee.Exact.{round_exact}
use lib.Ieee.Scale.{round_same}
use Rattle.blocks.specs.Block.{sum_to, bare_sum}
use Rattle.matrix.specs.Alike.{Alike, same, zeros}
use Rattle.matrix.proofs.OwnRound.{held, own_round}

le_any : (a : ℕ) → 0 ≤ a
le_any a = omega arith

zero_fits : (f : Format) (s : Bool) → T (fits f (fin s 0 (pos 0)))
unfolding fits
zero_fits f s = tt

round_zero : (f : Format) (s : Bool) (c : ℕ) → 0 < c → round f s 0 c ≡ fin s 0 (pos 0)
round_zero f s c h =
    round_same f s 0 c 0 1 h (zero-lt-suc 0) (sym (zero-mul c))
    ∙ held f s (round f s 0 1) 0 (pos 0) (round-fits f s 0 1) (zero_fits f s)
    (round_exact f s 0 1 0 0 (zero-lt-suc 0) (pow_pos (prec f)) (pow_pos (low f + suc (emax f))) (zero-mul (2 ^ low f)))

-- a sum with a zero
sum_left : (f : Format) (s t : Bool) (b c : ℕ) → 0 < b → sum f s 0 t b c ≡ round f t b c
unfolding sum
sum_left f false false b c h = ap (λ (x : ℕ). round f false x c) (zero-add b)
sum_left f true true b c h = ap (λ (x : ℕ). round f true x c) (zero-add b)
sum_left f false true b c h = rw (lt-ltb 0 b h, sub-zero b)
sum_left f true false b c h = rw (lt-ltb 0 b h, sub-zero b)

sum_right : (f : Format) (s t : Bool) (a c : ℕ) → 0 < a → sum f s a t 0 c ≡ round f s a c
unfolding sum
sum_right f false false a c h = ap (λ (x : ℕ). round f false x c) (add-zero a)
sum_right f true true a c h = ap (λ (x : ℕ). round f true x c) (add-zero a)
sum_right f false true a c h = rw (le-ltb _ _ (le_any a), sub-zero a)
sum_right f true false a c h = rw (le-ltb _ _ (le_any a), lt-ltb 0 a h, sub-zero a)

sum_none : (f : Format) (s t : Bool) (c : ℕ) → 0 < c → (b : Bool) × (sum f s 0 t 0 c ≡ fin b 0 (pos 0))
unfolding sum
sum_none f false false c h = (false, round_zero f false c h)
sum_none f true true c h = (true, round_zero f true c h)
sum_none f false true c h = (false, round_zero f false c h)
sum_none f true false c h = (false, round_zero f false c h)

pub by : {x y u v : Float} → x ≡ u → y ≡ v → Alike u v → Alike x y
by {x} {y} {u} {v} p q a = subst (λ (z : Float). Alike z y) (sym p) (subst (λ (z : Float). Alike u z) (sym q) a)

joined : {x y z : Float} → Alike x y → Alike y z → Alike x z
joined same b = b
joined zeros same = zeros
joined zeros zeros = zeros

-- the sum of a zero and a value
zero_plus : (f : Format) (s t : Bool) (n : ℕ) (d : ℤ) → add f (fin s 0 (pos 0)) (fin t n d) ≡ sum f s 0 t (n * up d) (down d)
unfolding add
zero_plus f s t n d = rw (zero-mul (down d), mul-one (n * up d), one-mul (down d))

plus_zero_lem : (f : Format) (s t : Bool) (m : ℕ) (e : ℤ) → add f (fin s m e) (fin t 0 (pos 0)) ≡ sum f s (m * up e) t 0 (down e)
unfolding add
plus_zero_lem f s t m e = rw (mul-one (m * up e), zero-mul (down e), mul-one (down e))

above : (m : ℕ) (e : ℤ) → 0 < suc m * up e
above m e = mul-pos (zero-lt-suc m) (up_pos e)

-- the term on the left may be another zero
pub add_left : (f : Format) {x z : Float} (y : Float) → Alike x z → Alike (add f x y) (add f z y)
add_left f y same = same
add_left f y (zeros {s} {t}) = go y
  where
    go : (y : Float) → Alike (add f (fin s 0 (pos 0)) y) (add f (fin t 0 (pos 0)) y)
    go nan = unfold add in same
    go (inf u) = unfold add in same
    go (fin u zero d) =
        let a = sum_none f s u (down d) (down_pos d) in
        let b = sum_none f t u (down d) (down_pos d) in
        by (zero_plus f s u 0 d ∙ ap (λ (n : ℕ). sum f s 0 u n (down d)) (zero-mul (up d)) ∙ a.1) (zero_plus f t u 0 d ∙ ap (λ (n : ℕ). sum f t 0 u n (down d)) (zero-mul (up d)) ∙ b.1) zeros
    go (fin u (suc n) d) = by (zero_plus f s u (suc n) d ∙ sum_left f s u (suc n * up d) (down d) (above n d)) (zero_plus f t u (suc n) d ∙ sum_left f t u (suc n * up d) (down d) (above n d)) same

-- and so may the term on the right
pub add_right : (f : Format) (x : Float) {y z : Float} → Alike y z → Alike (add f x y) (add f x z)
add_right f x same = same
add_right f x (zeros {s} {t}) = go x
  where
    go : (x : Float) → Alike (add f x (fin s 0 (pos 0))) (add f x (fin t 0 (pos 0)))
    go nan = unfold add in same
    go (inf u) = unfold add in same
    go (fin u zero d) =
        let a = sum_none f u s (down d) (down_pos d) in
        let b = sum_none f u t (down d) (down_pos d) in
        by (plus_zero_lem f u s 0 d ∙ ap (λ (n : ℕ). sum f u n s 0 (down d)) (zero-mul (up d)) ∙ a.1) (plus_zero_lem f u t 0 d ∙ ap (λ (n : ℕ). sum f u n t 0 (down d)) (zero-mul (up d)) ∙ b.1) zeros
    go (fin u (suc n) d) = by (plus_zero_lem f u s (suc n) d ∙ sum_right f u s (suc n * up d) (down d) (above n d)) (plus_zero_lem f u t (suc n) d ∙ sum_right f u t (suc n * up d) (down d) (above n d)) same

zero_times : (f : Format) (s u : Bool) (n : ℕ) (d : ℤ) → mul f (fin s 0 (pos 0)) (fin u n d) ≡ fin (unlike s u) 0 (pos 0)
unfolding mul
zero_times f s u n d = rw (zero-mul (n * up d), one-mul (down d)) (round_zero f (unlike s u) (down d) (down_pos d))

-- a factor may be another zero
pub mul_left : (f : Format) {x z : Float} (y : Float) → Alike x z → Alike (mul f x y) (mul f z y)
mul_left f y same = same
mul_left f y (zeros {s} {t}) = go y
  where
    go : (y : Float) → Alike (mul f (fin s 0 (pos 0)) y) (mul f (fin t 0 (pos 0)) y)
    go nan = unfold mul in same
    go (inf u) = unfold mul in same
    go (fin u n d) = by (zero_times f s u n d) (zero_times f t u n d) zeros

zero_is : (f : Format) → of_bits f 0 ≡ fin false 0 (pos 0)
unfolding of_bits
zero_is binary32 = refl
zero_is binary64 = refl

-- a value that is held, added to +0
pub from_zero : (f : Format) (x : Float) → T (fits f x) → Alike (add f (of_bits f 0) x) x
from_zero f x h = by (ap (λ (z : Float). add f z x) (zero_is f)) refl (go x h)
  where
    go : (x : Float) → T (fits f x) → Alike (add f (fin false 0 (pos 0)) x) x
    go nan h = unfold add in same
    go (inf t) h = unfold add in same
    go (fin t zero e) h =
        let a = sum_none f false t (down e) (down_pos e) in
        by (zero_plus f false t 0 e ∙ ap (λ (n : ℕ). sum f false 0 t n (down e)) (zero-mul (up e)) ∙ a.1)
        (held f t (fin t 0 e) 0 (pos 0) h (zero_fits f t) (refl, mul-one (0 * up e) ∙ zero-mul (up e) ∙ sym (zero-mul (down e)))) zeros
    go (fin t (suc m) e) h = by (zero_plus f false t (suc m) e ∙ sum_left f false t (suc m * up e) (down e) (above m e) ∙ own_round f t m e h) refl same

-- one that is no zero is the same
pub alike_same : (f : Format) {x y : Float} → Alike x y → eq y (of_bits f 0) ≡ false → x ≡ y
alike_same f same h = refl
alike_same f (zeros {s} {t}) h = absurd (go t (ap (eq (fin t 0 (pos 0))) (sym (zero_is f)) ∙ h))
  where
    go : (t : Bool) → eq (fin t 0 (pos 0)) (fin false 0 (pos 0)) ≡ false → ⊥
    go true h = true≢false (unfold eq in h)
    go false h = true≢false (unfold eq in h)

-- a sum of terms, from +0 or from the first of them on
pub bare_alike : (f : Format) (n : ℕ) (term : ℕ → Float) → 1 ≤ n → T (fits f (term 0)) → Alike (sum_to f n term) (bare_sum f n term)
bare_alike f zero term some h = absurd (omega (arith, some))
bare_alike f (suc zero) term some h = from_zero f (term 0) h
bare_alike f (suc (suc m)) term some h = add_left f (term (suc m)) (bare_alike f (suc m) term (omega arith) h)

-- alike terms are added, the right one scaled
pub step : (f : Format) (alpha : Float) {s t u v : Float} → Alike s t → Alike u v → Alike (add f s (mul f u alpha)) (add f t (mul f v alpha))
step f alpha {s} {t} {u} {v} a b = joined (add_left f (mul f u alpha) a) (add_right f t (mul_left f alpha b))
