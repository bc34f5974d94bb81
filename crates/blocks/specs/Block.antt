-- Document 01's "Small blocks": products, sums and scaling of blocks and vectors of floats, at any format f and any N.
-- Definitions only.
use Rattle.std.specs.Prelude.{Bool, not, List, [], ◌∷◌, ◌++◌, ℕ, zero, suc, ◌+◌, ◌*◌, ◌/◌, ◌%◌, get_or, Float}
use Rattle.std.specs.Float.{Format, nan}
use Rattle.std.specs.Float.Ieee.{add, sub, mul, eq, of_bits}
use Rattle.base.specs.All.{all_to}

-- +0
abbrev pub plus_zero : Format → Float
plus_zero f = of_bits f 0

-- the m values g 0, g 1, .., g (m - 1)
abbrev pub listed : ℕ → (ℕ → Float) → List Float
listed zero g = []
listed (suc m) g = listed m g ++ (g m ∷ [])

-- element (r, c) of a block of N by N values stands at r + N * c
abbrev pub element : ℕ → List Float → ℕ → ℕ → Float
element n a r c = get_or a (r + n * c) nan

-- the block whose element (r, c) is g r c
abbrev pub block_of : ℕ → (ℕ → ℕ → Float) → List Float
block_of n g = listed (n * n) (λ j. g (j % n) (j / n))

-- a sum starts at +0 and adds its m terms in rising index
abbrev pub sum_to : Format → ℕ → (ℕ → Float) → Float
sum_to f zero term = plus_zero f
sum_to f (suc m) term = add f (sum_to f m term) (term m)

-- the block product: (r, c) sums a(r,q) * b(q,c)
abbrev pub product : Format → ℕ → List Float → List Float → List Float
product f n a b = block_of n (λ r c. sum_to f n (λ q. mul f (element n a r q) (element n b q c)))

-- block times vector likewise: value r sums a(r,q) * x(q)
abbrev pub applied : Format → ℕ → List Float → List Float → List Float
applied f n a x = listed n (λ r. sum_to f n (λ q. mul f (element n a r q) (get_or x q nan)))

-- a sum that begins with its first term
abbrev pub bare_sum : Format → ℕ → (ℕ → Float) → Float
bare_sum f zero term = plus_zero f
bare_sum f (suc zero) term = term 0
bare_sum f (suc (suc m)) term = add f (bare_sum f (suc m) term) (term (suc m))

-- block times vector with such sums: a value may be a zero of another sign, and else is the same
abbrev pub applied_bare : Format → ℕ → List Float → List Float → List Float
applied_bare f n a x = listed n (λ r. bare_sum f n (λ q. mul f (element n a r q) (get_or x q nan)))

-- none of the m values compares equal to zero
abbrev pub no_zero : Format → ℕ → List Float → Bool
no_zero f m v = all_to (λ k. not (eq (get_or v k nan) (plus_zero f))) m

-- scaling multiplies each of the m values
abbrev pub scaled : Format → ℕ → List Float → Float → List Float
scaled f m v s = listed m (λ k. mul f (get_or v k nan) s)

-- the sum and the difference of two lists of m values, value by value
abbrev pub added : Format → ℕ → List Float → List Float → List Float
added f m u v = listed m (λ k. add f (get_or u k nan) (get_or v k nan))

abbrev pub subtracted : Format → ℕ → List Float → List Float → List Float
subtracted f m u v = listed m (λ k. sub f (get_or u k nan) (get_or v k nan))
