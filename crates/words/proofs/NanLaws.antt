-- A NaN is the value that differs from itself, and its patterns are those above plus infinity's, the sign left out.
-- Assumes nothing.
use mathlib.Core.Path.{◌≡◌, refl, sym, ◌∙◌, subst}
use mathlib.Core.Bool.{Bool, true, false, not, true≢false}
use Prim.Native.Nat.{ℕ, ◌%◌, ◌≤◌, ◌<◌, ◌^◌}
use borrow.Author.Tests.{lt-ltb, le-ltb}
use lib.Dec.{T}
use lib.Ieee.{Float, nan, inf, fin, binary64, ne, is_nan, nan_bits, of_bits}
use lib.Ieee.Bits.{nan_bits_is, nan_bits_above}
use lib.Ieee.Compare.{differs_from_itself}

pub nan_of : (x : Float) → ne x x ≡ true → x ≡ nan
nan_of x e = differs_from_itself x (subst T (sym e) tt)

pub not_nan : (x : Float) → ne x x ≡ false → T (not (is_nan x))
unfolding ne is_nan
not_nan nan e = absurd (true≢false e)
not_nan (inf s) e = tt
not_nan (fin s m e) q = tt

named : (x : Float) → is_nan x ≡ true → x ≡ nan
unfolding is_nan
named nan e = refl
named (inf s) e = absurd (true≢false (sym e))
named (fin s m k) e = absurd (true≢false (sym e))

-- above plus infinity's pattern
pub reads_nan : (bits : ℕ) → 0x7FF0000000000000 < bits % 2 ^ 63 → of_bits binary64 bits ≡ nan
reads_nan bits above = named (of_bits binary64 bits) (sym (nan_bits_is binary64 bits) ∙ nan_bits_above binary64 bits ∙ lt-ltb _ _ above)

pub reads_no_nan : (bits : ℕ) → bits % 2 ^ 63 ≤ 0x7FF0000000000000 → T (not (nan_bits binary64 bits))
reads_no_nan bits below = subst (λ (t : Bool). T (not t)) (sym (nan_bits_above binary64 bits ∙ le-ltb _ _ below)) tt
