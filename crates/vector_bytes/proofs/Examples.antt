-- Worked examples computed from the definitions: what is refused with which number, and calls from bytes to bytes.
-- Assumes nothing.
use mathlib.Core.Path.{◌≡◌, refl}
use mathlib.Core.List.{List, [], ◌∷◌}
use Prim.Native.Nat.{ℕ}
use lib.Ieee.{binary64, of_bits, to_bits, add, mul, odd, round, units, span, climb, size, sum}
use Rattle.base.specs.Each.{each}
use Rattle.answers.specs.Checks.{first_of}
use Rattle.vectors.specs.Vectors.{fixed, fix_at, add_scaled, add_scaled_at}
use Rattle.wire.specs.Bytes.{bytes_of_word, word_of, bytes_of_words, words_to, words_in, bytes_of, values_in}
use Rattle.wire.specs.Words.{flags_in}
use Rattle.vector_bytes.specs.Checks.{words, long_words, call_checks}

-- 1 comes before 2, and an N of 0 or 4 is 2
pub rows_first : (first_of (call_checks 4097 4 []) ≡ 1) × (first_of (call_checks 0 0 []) ≡ 1) × (first_of (call_checks 1 0 (words 8 0 ∷ [])) ≡ 2)
    × (first_of (call_checks 1 4 (words 8 32 ∷ [])) ≡ 2) × (first_of (call_checks 4096 3 (words 8 98304 ∷ words 4 49152 ∷ [])) ≡ 0)
rows_first = (refl, refl, refl, refl, refl)

-- one row of N = 1 has 8 bytes of values and 4 of flags; only flags that may be longer may have more, and only whole words
pub lengths : (first_of (call_checks 1 1 (words 8 9 ∷ [])) ≡ 2) × (first_of (call_checks 1 1 (words 8 8 ∷ words 4 8 ∷ [])) ≡ 2)
    × (first_of (call_checks 1 1 (words 8 8 ∷ long_words 4 8 ∷ [])) ≡ 0) × (first_of (call_checks 1 1 (words 8 8 ∷ long_words 4 6 ∷ [])) ≡ 2)
    × (first_of (call_checks 1 1 (words 8 8 ∷ long_words 4 0 ∷ [])) ≡ 2)
lengths = (refl, refl, refl, refl, refl)

-- the bytes of 1, of 2 and of 3
abbrev pub one_bytes : List ℕ
one_bytes = 0 ∷ 0 ∷ 0 ∷ 0 ∷ 0 ∷ 0 ∷ 240 ∷ 63 ∷ []

abbrev pub two_bytes : List ℕ
two_bytes = 0 ∷ 0 ∷ 0 ∷ 0 ∷ 0 ∷ 0 ∷ 0 ∷ 64 ∷ []

-- a flag of -1 fixes
pub fixed_bytes : bytes_of binary64 (fixed binary64 (flags_in (255 ∷ 255 ∷ 255 ∷ 255 ∷ [])) (values_in binary64 one_bytes)) ≡ 0 ∷ 0 ∷ 0 ∷ 0 ∷ 0 ∷ 0 ∷ 0 ∷ 0 ∷ []
unfolding bytes_of bytes_of_words bytes_of_word fixed fix_at each flags_in values_in words_in words_to word_of of_bits to_bits
fixed_bytes = refl

-- 1 + 1 * 1 is 2
pub added_bytes : bytes_of binary64 (add_scaled binary64 (of_bits binary64 4607182418800017408) (values_in binary64 one_bytes) (values_in binary64 one_bytes)) ≡ two_bytes
unfolding bytes_of bytes_of_words bytes_of_word add_scaled add_scaled_at each values_in words_in words_to word_of of_bits to_bits add mul round units span climb size sum odd
added_bytes = refl
