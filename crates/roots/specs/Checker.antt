-- What the checker of a root decides, in whole numbers.
-- Its numbers are those of doubles: 53 binary digits, so that 2 ^ 52 is the least number that has them all.
use Rattle.std.specs.Prelude.{ℕ, ◌+◌, ◌-◌, ◌*◌, ◌/◌, ◌%◌, ◌^◌, Bool, cond, ◌&&◌, ◌==◌, nat_le, nat_lt}

-- what 2q - 1 is multiplied by for the lower bound: itself, but 2q where the double below q is q - 1/2, since (2q - 1/2)² is 2q * (2q - 1) and a quarter
abbrev pub lower_factor : ℕ → ℕ
lower_factor q = cond (q == 2 ^ 52) (2 * q) (2 * q - 1)

-- q is the nearest to the root of n: (2q - 1)² < 4n < (2q + 1)²
abbrev pub nearest : ℕ → ℕ → Bool
nearest fourN q = nat_lt ((2 * q - 1) * lower_factor q) fourN && nat_lt fourN ((2 * q + 1) * (2 * q + 1))

-- the digits moved up, or 0 if they would then pass 2 ^ 55
abbrev pub moved_up : ℕ → ℕ → ℕ
moved_up digits places = cond (nat_lt (digits * 2 ^ places) (2 ^ 55)) (digits * 2 ^ places) 0

-- the digits of a finite number with the sign clear, which is digits_of * 2 ^ (exponent_of - 1075)
abbrev pub digits_of : ℕ → ℕ
digits_of bits = cond (nat_lt bits (2 ^ 52)) bits (bits % 2 ^ 52 + 2 ^ 52)

-- the field, and 1 for a subnormal number, whose field is 0
abbrev pub exponent_of : ℕ → ℕ
exponent_of bits = cond (nat_lt bits (2 ^ 52)) 1 (bits / 2 ^ 52)

-- The bits r are finite, with all digits, and are the nearest to the root of the bits x: over the square of r's last place x is n, and 4n is this many times 2 ^ 53.
unfoldable pub nearest_bits : ℕ → ℕ → Bool
nearest_bits x r =
    nat_le (2 ^ 52) r && nat_lt r (2047 * 2 ^ 52) && nat_le (2 * exponent_of r) (exponent_of x + 1024)
    && nearest (moved_up (digits_of x) (exponent_of x + 1024 - 2 * exponent_of r) * 2 ^ 53) (digits_of r)
