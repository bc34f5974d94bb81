-- The vector calls that write, by one name each: what their second slice holds, and what they make of the bytes that are lent.
-- Definitions only.
use Rattle.std.specs.Prelude.{List, [], ◌∷◌, ℕ, ℤ, length, take, Float}
use Rattle.std.specs.Float.{Format}
use Rattle.vectors.specs.Vectors.{zeroed, copied, add_scaled, scale_add, fixed}
use Rattle.wire.specs.Bytes.{bytes_each, values_in}
use Rattle.wire.specs.Words.{flags_in}
use Rattle.vector_bytes.specs.Checks.{Lent, words, long_words}
use Rattle.vector_bytes.specs.declared.Second.{Second}
use Rattle.vector_bytes.specs.declared.Second.TheVariants.{Nothing, Values, Flags, LongFlags}
use Rattle.vector_bytes.specs.declared.Operation.{Operation}
use Rattle.vector_bytes.specs.declared.Operation.TheVariants.{SetZero, Copy, AddScaledVector, ScaleAndAddVec, SetFixed, SetFixDofToRhsVector}

-- what is lent beside the vector that a call writes
abbrev pub second_of : Operation → Second
second_of SetZero = Nothing
second_of Copy = Values
second_of AddScaledVector = Values
second_of ScaleAndAddVec = Values
second_of SetFixed = Flags
second_of SetFixDofToRhsVector = LongFlags

-- the lent slices, by their bytes
abbrev pub lent_of : Format → Second → ℕ → ℕ → List Lent
lent_of f Nothing p b = words (bytes_each f) p ∷ []
lent_of f Values p b = words (bytes_each f) p ∷ words (bytes_each f) b ∷ []
lent_of f Flags p b = words (bytes_each f) p ∷ words 4 b ∷ []
lent_of f LongFlags p b = words (bytes_each f) p ∷ long_words 4 b ∷ []

-- what a call with the factor s makes of the vector x, given other values or flags
abbrev pub made_of : Format → Operation → Float → List Float → List ℤ → List Float → List Float
made_of f SetZero s values flags x = zeroed f x
made_of f Copy s values flags x = copied values x
made_of f AddScaledVector s values flags x = add_scaled f s values x
made_of f ScaleAndAddVec s values flags x = scale_add f s values x
made_of f SetFixed s values flags x = fixed f flags x
made_of f SetFixDofToRhsVector s values flags x = fixed f flags x

-- the same, given the bytes of those
abbrev pub result_of : Format → Operation → Float → List ℕ → List Float → List Float
result_of f op s b x = made_of f op s (values_in f b) (flags_in b) x

-- the values that are decoded from the second slice over y, and the flags that are decoded over z
abbrev pub values_over : Format → Second → List ℕ → List Float → List Float
values_over f Nothing b y = y
values_over f Values b y = values_in f b
values_over f Flags b y = y
values_over f LongFlags b y = y

abbrev pub flags_over : Second → List ℕ → List ℤ → List ℤ
flags_over Nothing b z = z
flags_over Values b z = z
flags_over Flags b z = flags_in b
flags_over LongFlags b z = take (length z) (flags_in b)
