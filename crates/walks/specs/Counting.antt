-- At how many of the numbers below a bound a test holds, and the largest of as many numbers.
-- Definitions only.
use Rattle.std.specs.Prelude.{Bool, true, false, ℕ, zero, suc, ◌+◌, max}

-- 1 for a test that holds
abbrev pub bit : Bool → ℕ
bit true = 1
bit false = 0

-- how many of 0, 1, .., n - 1 pass
abbrev pub count : ℕ → (ℕ → Bool) → ℕ
count zero test = 0
count (suc n) test = count n test + bit (test n)

-- the largest of f 0, f 1, .., f (n - 1), and 0 if there is none
abbrev pub largest : ℕ → (ℕ → ℕ) → ℕ
largest zero f = 0
largest (suc n) f = max (f n) (largest n f)
