-- Indexes and flags as bytes: words of four bytes, the low byte first, a flag in two's complement.
-- Definitions only.
use Rattle.std.specs.Prelude.{List, [], ◌∷◌, map, Bool, true, ◌&&◌, cond, ℕ, ◌-◌, ltb, ℤ, pos, negsuc}
use Rattle.wire.specs.Bytes.{bytes_of_words, words_in}

-- the indexes of bytes, as many as are whole
unfoldable pub indexes_in : List ℕ → List ℕ
indexes_in bytes = words_in 4 bytes

-- the bytes of indexes
unfoldable pub bytes_of_indexes : List ℕ → List ℕ
bytes_of_indexes indexes = bytes_of_words 4 indexes

-- a word as a flag: one of 2^31 and above stands for itself less 2^32, and `negsuc m` is -(m + 1)
abbrev pub flag_of : ℕ → ℤ
flag_of word = cond (ltb word 2147483648) (pos word) (negsuc (4294967295 - word))

-- the flags of bytes, as many as are whole
unfoldable pub flags_in : List ℕ → List ℤ
flags_in bytes = map flag_of (words_in 4 bytes)

-- every index is below 2^32, so that four bytes hold it
unfoldable pub all_indexes : List ℕ → Bool
all_indexes [] = true
all_indexes (x ∷ indexes) = ltb x 4294967296 && all_indexes indexes
