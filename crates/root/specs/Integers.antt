-- The integer side of the square root, which the contracts of the inner functions cite: roots of whole numbers, and a value by its binary digits.
-- A value is counted in units of the format's smallest one, 2 ^ -low, and its bits have the sign clear.
use Rattle.std.specs.Prelude.{◌≡◌, ℕ, zero, suc, ◌+◌, ◌*◌, ◌/◌, ◌%◌, ◌^◌, ◌≤◌, ◌<◌}
use Rattle.std.specs.Float.{Format}
use Rattle.std.specs.Float.Ieee.{prec, low, hid, ones}

-- root is the whole part of n's root, and left is what n has above its square
pub record FloorRoot (n root left : ℕ) : Type 0 where
  pub whole : root * root + left ≡ n
  pub small : left ≤ 2 * root

-- root is the whole number nearest to n's root: (2 * root - 1)² < 4n < (2 * root + 1)², where 4 * root is added to both sides of the first
pub record NearestRoot (n root : ℕ) : Type 0 where
  pub above : 4 * (root * root) + 1 < 4 * n + 4 * root
  pub below : 4 * n < (2 * root + 1) * (2 * root + 1)

-- how many units an exponent's field and the digits after it stand for: the leading digit is hidden, and a field of 0 has none
unfoldable pub units_of_fields : Format → ℕ → ℕ → ℕ
units_of_fields f zero digits = digits
units_of_fields f (suc field) digits = (hid f + digits) * 2 ^ field

-- how many units the bits of a finite value stand for
unfoldable pub units_of_bits : Format → ℕ → ℕ
unfolding units_of_fields
units_of_bits f bits = units_of_fields f (bits / hid f) (bits % hid f)

-- the bits of plus infinity: those of a finite value are below
abbrev pub infinity_bits : Format → ℕ
infinity_bits f = ones f * hid f

-- n is digits * 4 ^ fours. There are `prec` digits or one more, and not all of them are ones, so that the root does not round up to one more digit.
pub record Scaled (f : Format) (n digits fours : ℕ) : Type 0 where
  pub value : n ≡ digits * 4 ^ fours
  pub least : hid f ≤ digits
  pub most : digits + 1 < 4 * hid f
  pub short : 2 * fours < ones f + prec f

-- The bits r are the root of the bits b: over the square of a unit b's value is square * 4 ^ exponent, and digits, `prec` of them, is nearest to square's root.
pub record RootBits (f : Format) (b r : ℕ) : Type 0 where
  pub exponent : ℕ
  pub square : ℕ
  pub digits : ℕ
  pub made : r ≡ exponent * hid f + digits
  pub value : units_of_bits f b * 2 ^ low f ≡ square * 4 ^ exponent
  pub near : NearestRoot square digits
  pub least : hid f ≤ digits
  pub most : digits < 2 * hid f
  pub wide : hid f * hid f ≤ square
  pub finite : r < infinity_bits f
