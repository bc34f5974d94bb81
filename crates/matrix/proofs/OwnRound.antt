-- A value that a format holds is what its own fraction is rounded to.
-- Assumes nothing.
use mathlib.Core.Path.{◌≡◌, sym, ap, ◌∙◌, subst}
use mathlib.Core.Logic.{◌⊎◌, inl, inr}
use mathlib.Core.Bool.{Bool, true, false, not, ◌&&◌, cond}
use Prim.Native.Nat.{ℕ, suc, ◌+◌, ◌-◌, ◌*◌, ◌/◌, ◌%◌, ◌^◌, ◌≤◌, ◌<◌}
use native.Mathlib.Nat.{mul_assoc, mul_comm, mul_right_comm, mul-one, one-mul, lt_irrefl, lt_of_lt_of_le, mul-le-mul_right, mul-lt-mul_of_pos_right}
use native.Mathlib.Omega.{arith}
use lib.IntN.{ℤ, pos, negsuc}
use lib.Dec.{T, ltb, leb, eqb, ltb→lt, leb→le, nltb→le}
use lib.Pow.{pow-add, pow_pos, pow-lt}
use lib.Ieee.{Float, nan, inf, fin, Format, prec, emax, low, up, down, size, hid, top, round, fits, to_bits, of_bits}
use lib.Ieee.Fits.{down_pos, round-fits, and_l, and_r}
use lib.Ieee.Exact.{HasValue, round_exact}
use lib.Ieee.Nearest.{div_same}
use lib.Ieee.Bits.{of_bits-to_bits}

lt_or_le : (a b : ℕ) → (a < b) ⊎ (b ≤ a)
lt_or_le a b = go (ltb a b) (ltb→lt a b) (nltb→le a b)
  where
    go : (t : Bool) → (T t → a < b) → (T (not t) → b ≤ a) → (a < b) ⊎ (b ≤ a)
    go true f g = inl (f tt)
    go false f g = inr (g tt)

-- two values that fit, have one sign and are the same fraction are the same value
cross_by : (a b c d l : ℕ) → a * d ≡ c * b → a * l * d ≡ c * l * b
cross_by a b c d l e = mul_right_comm a l d ∙ ap (λ (x : ℕ). x * l) e ∙ mul_right_comm c b l

same_bits : (f : Format) (s : Bool) (m : ℕ) (c : ℤ) (n : ℕ) (d : ℤ) → m * up c * down d ≡ n * up d * down c → to_bits f (fin s m c) ≡ to_bits f (fin s n d)
unfolding to_bits
same_bits f s m c n d e =
    ap (λ (z : ℕ). cond s (top f) 0 + (size z - prec f) * hid f + z / 2 ^ (size z - prec f))
    (div_same (m * up c * 2 ^ low f) (down c) (n * up d * 2 ^ low f) (down d) (down_pos c) (down_pos d) (cross_by (m * up c) (down c) (n * up d) (down d) (2 ^ low f) e))

unique : (f : Format) (s : Bool) (m : ℕ) (c : ℤ) (n : ℕ) (d : ℤ) → T (fits f (fin s m c)) → T (fits f (fin s n d)) → m * up c * down d ≡ n * up d * down c → fin s m c ≡ fin s n d
unique f s m c n d F G e = sym (of_bits-to_bits f (fin s m c) F) ∙ ap (of_bits f) (same_bits f s m c n d e) ∙ of_bits-to_bits f (fin s n d) G

pub held : (f : Format) (s : Bool) (x : Float) (m : ℕ) (e : ℤ) → T (fits f x) → T (fits f (fin s m e)) → HasValue x s (m * up e) (down e) → x ≡ fin s m e
held f s nan m e F G v = absurd v
held f s (inf t) m e F G v = absurd v
held f s (fin t n g) m e F G v =
    let at : fin t n g ≡ fin s n g = ap (λ (b : Bool). fin b n g) v.0 in
    at ∙ unique f s n g m e (subst (λ (x : Float). T (fits f x)) at F) G v.1

-- the power of two that a value's last digit is, in units of the smallest value
shift : (e : ℤ) (l : ℕ) → down e ≤ 2 ^ l → (j : ℕ) × (up e * 2 ^ l ≡ 2 ^ j * down e)
shift (pos k) l h = (k + l, sym (pow-add 2 k l) ∙ sym (mul-one (2 ^ (k + l))))
shift (negsuc k) l h = elim (lt_or_le l (suc k)) [
  | inl b ↦ absurd (lt_irrefl (2 ^ l) (lt_of_lt_of_le (pow-lt b) h))
  | inr b ↦
      let e : l ≡ (l - suc k) + suc k = omega arith in
      (l - suc k, one-mul (2 ^ l) ∙ ap (λ (x : ℕ). 2 ^ x) e ∙ pow-add 2 (l - suc k) (suc k))
]

cancel : (a b c : ℕ) → a * c < b * c → a < b
cancel a b c h = elim (lt_or_le a b) [
  | inl l ↦ l
  | inr l ↦ absurd (lt_irrefl (a * c) (lt_of_lt_of_le h (mul-le-mul_right c l)))
]

facts : (f : Format) (s : Bool) (m : ℕ) (e : ℤ) → T (fits f (fin s (suc m) e)) → (suc m < 2 ^ prec f) × (down e ≤ 2 ^ low f) × (suc m * up e < 2 ^ suc (emax f) * down e)
unfolding fits
facts f s m e t =
    let a = eqb (suc m % 2) 1 in
    let b = ltb (suc m) (2 ^ prec f) in
    let c = leb (down e) (2 ^ low f) in
    let d = ltb (suc m * up e) (2 ^ suc (emax f) * down e) in
    let abc = and_l (a && b && c) d t in (
      ltb→lt (suc m) (2 ^ prec f) (and_r a b (and_l (a && b) c abc)),
      leb→le (down e) (2 ^ low f) (and_r (a && b) c abc),
      ltb→lt (suc m * up e) (2 ^ suc (emax f) * down e) (and_r (a && b && c) d t),
    )

pub own_round : (f : Format) (s : Bool) (m : ℕ) (e : ℤ) → T (fits f (fin s (suc m) e)) → round f s (suc m * up e) (down e) ≡ fin s (suc m) e
own_round f s m e t =
    let l = low f in
    let parts = facts f s m e t in
    let sh = shift e l parts.1 in
    let j = sh.0 in
    let scaled : suc m * up e * 2 ^ l ≡ suc m * 2 ^ j * down e = mul_assoc (suc m) (up e) (2 ^ l) ∙ ap (λ (x : ℕ). suc m * x) sh.1 ∙ sym (mul_assoc (suc m) (2 ^ j) (down e)) in
    let room : 2 ^ suc (emax f) * down e * 2 ^ l ≡ 2 ^ (l + suc (emax f)) * down e =
    mul_right_comm (2 ^ suc (emax f)) (down e) (2 ^ l) ∙ ap (λ (x : ℕ). x * down e) (mul_comm (2 ^ suc (emax f)) (2 ^ l) ∙ sym (pow-add 2 l (suc (emax f)))) in
    let high : suc m * up e * 2 ^ l < 2 ^ suc (emax f) * down e * 2 ^ l = mul-lt-mul_of_pos_right parts.2 (pow_pos l) in
    let fine : suc m * 2 ^ j < 2 ^ (l + suc (emax f)) =
    cancel (suc m * 2 ^ j) (2 ^ (l + suc (emax f))) (down e) (subst (λ (x : ℕ). x < 2 ^ (l + suc (emax f)) * down e) scaled (subst (λ (x : ℕ). suc m * up e * 2 ^ l < x) room high)) in
    held f s (round f s (suc m * up e) (down e)) (suc m) e (round-fits f s (suc m * up e) (down e)) t
    (round_exact f s (suc m * up e) (down e) (suc m) j (down_pos e) parts.0 fine scaled)
