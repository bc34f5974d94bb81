-- Document 01's inverse of a block, for N = 1, 2, 3, at any format f: the determinant d, the inverse with s = 1/d, and what a call answers.
-- Definitions only.
use Rattle.std.specs.Prelude.{◌≡◌, List, [], ◌∷◌, Bool, cond, ℕ, zero, suc, ◌+◌, ◌*◌, ◌%◌, Float, Result, Ok, Err}
use Rattle.std.specs.Float.{Format, nan}
use Rattle.std.specs.Float.Ieee.{add, sub, mul, div, neg, eq, of_bits, emax, hid}
use Rattle.answers.specs.declared.Refusal.{Refusal}
use Rattle.answers.specs.declared.Refusal.TheVariants.{Singular}
use Rattle.answers.specs.Numbers.{refusal_number, refusal_values}
use Rattle.answers.specs.Checks.{first_of, ◌when◌}
use Rattle.blocks.specs.declared.NoInverse.{NoInverse}
use Rattle.blocks.specs.Block.{plus_zero, element, block_of}

-- 1: the bits of its exponent are those of 2^0, and its digits are 0
abbrev pub one : Format → Float
one f = of_bits f (emax f * hid f)

-- N = 3: K(r,c) = a(c+1,r+1) * a(c+2,r+2) - a(c+1,r+2) * a(c+2,r+1), indexes modulo 3
abbrev pub cofactor : Format → List Float → ℕ → ℕ → Float
cofactor f a r c =
    let at : ℕ → ℕ → Float = λ i j. element 3 a (i % 3) (j % 3) in
    sub f (mul f (at (c + 1) (r + 1)) (at (c + 2) (r + 2))) (mul f (at (c + 1) (r + 2)) (at (c + 2) (r + 1)))

-- d, for each N; there is no other N
abbrev pub determinant : Format → ℕ → List Float → Float
determinant f zero a = nan
determinant f (suc zero) a = element 1 a 0 0
determinant f (suc (suc zero)) a = sub f (mul f (element 2 a 0 0) (element 2 a 1 1)) (mul f (element 2 a 0 1) (element 2 a 1 0))
determinant f (suc (suc (suc zero))) a =
    add f (add f (mul f (element 3 a 0 0) (cofactor f a 0 0)) (mul f (element 3 a 0 1) (cofactor f a 1 0))) (mul f (element 3 a 0 2) (cofactor f a 2 0))
determinant f (suc (suc (suc (suc n)))) a = nan

-- the inverse of a block, of which s is 1/d
abbrev pub inverse_by : Format → ℕ → List Float → Float → List Float
inverse_by f zero a s = []
inverse_by f (suc zero) a s = s ∷ []
inverse_by f (suc (suc zero)) a s = mul f s (element 2 a 1 1) ∷ mul f s (neg (element 2 a 1 0)) ∷ mul f s (neg (element 2 a 0 1)) ∷ mul f s (element 2 a 0 0) ∷ []
inverse_by f (suc (suc (suc zero))) a s = block_of 3 (λ r c. mul f s (cofactor f a r c))
inverse_by f (suc (suc (suc (suc n)))) a s = []

abbrev pub inverse : Format → ℕ → List Float → List Float
inverse f n a = inverse_by f n a (div f (one f) (determinant f n a))

-- refused exactly if d compares equal to zero: a NaN does not
abbrev pub singular : Format → ℕ → List Float → Bool
singular f n a = eq (determinant f n a) (plus_zero f)

-- what a block without an inverse is refused with: 9, and row 0
abbrev pub refusal_of : {B : Type 0} → NoInverse B → Refusal
refusal_of why = Singular 0

-- the number that an inverse answers, and the values that go with it: 0 is the inverse
abbrev pub inverse_number : {B : Type 0} → Result B (NoInverse B) → ℕ
inverse_number (Ok block) = 0
inverse_number (Err why) = refusal_number (refusal_of why)

abbrev pub inverse_values : {B : Type 0} → Result B (NoInverse B) → List ℕ
inverse_values (Ok block) = []
inverse_values (Err why) = refusal_values (refusal_of why)

-- the block that it hands back
abbrev pub inverse_block : {B : Type 0} → Result B (NoInverse B) → B
inverse_block (Ok block) = block
inverse_block (Err why) = why.block

-- what the call answers: 9 with row 0 and the block as given, or the inverse. `list` says which values a block has
pub record Inverted {B : Type 0} (f : Format) (n : ℕ) (list : B → List Float) (a : List Float) (result : Result B (NoInverse B)) : Type 0 where
  pub number : inverse_number result ≡ first_of ((9 when singular f n a) ∷ [])
  pub row : inverse_values result ≡ cond (singular f n a) (0 ∷ []) []
  pub left : list (inverse_block result) ≡ cond (singular f n a) a (inverse f n a)
