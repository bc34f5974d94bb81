-- What hexadecimal digits in a text say. A byte is its code, so that 48 is the digit 0, 65 the letter A and 97 the letter a.
-- Definitions only.
use Rattle.std.specs.Prelude.{Bool, true, false, ◌&&◌, cond, List, ℕ, zero, suc, ◌+◌, ◌-◌, ◌*◌, ltb, leb, eqb, get_or}
use Rattle.base.specs.First.{first_in}

-- the value of a hexadecimal digit, and 16 for any other byte
unfoldable pub digit_value : ℕ → ℕ
digit_value b = cond (leb 48 b && leb b 57) (b - 48) (cond (leb 97 b && leb b 102) (b - 97 + 10) (cond (leb 65 b && leb b 70) (b - 65 + 10) 16))

-- whether the n bytes from at on are digits
unfoldable pub all_digits : List ℕ → ℕ → ℕ → Bool
all_digits line at zero = true
all_digits line at (suc n) = all_digits line at n && ltb (digit_value (get_or line (at + n) 0)) 16

-- the number that they say
unfoldable pub hex_value : List ℕ → ℕ → ℕ → ℕ
hex_value line at zero = 0
hex_value line at (suc n) = hex_value line at n * 16 + digit_value (get_or line (at + n) 0)

-- the index of the first such byte, and the length where there is none
unfoldable pub first_byte : ℕ → List ℕ → ℕ
first_byte byte text = first_in (λ b. eqb b byte) text
