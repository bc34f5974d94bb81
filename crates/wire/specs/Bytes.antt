-- Words as bytes, the low byte first and the words one after the other; and values as bytes, at any format f: a value is the word of its bits.
-- Definitions only.
use Rattle.std.specs.Prelude.{List, [], ◌∷◌, ◌++◌, map, Bool, true, ◌&&◌, ℕ, zero, suc, ◌+◌, ◌*◌, ◌/◌, ◌%◌, length, take, drop, Float}
use Rattle.std.specs.Float.{Format, binary32, binary64}
use Rattle.std.specs.Float.Ieee.{of_bits, to_bits, fits}

-- the bytes that a value has
abbrev pub bytes_each : Format → ℕ
bytes_each binary32 = 4
bytes_each binary64 = 8

-- the k low bytes of a word, the low byte first
unfoldable pub bytes_of_word : ℕ → ℕ → List ℕ
bytes_of_word zero word = []
bytes_of_word (suc k) word = word % 256 ∷ bytes_of_word k (word / 256)

-- the word that bytes stand for, the low byte first
unfoldable pub word_of : List ℕ → ℕ
word_of [] = 0
word_of (byte ∷ bytes) = byte + 256 * word_of bytes

-- the bytes of words, k to a word
unfoldable pub bytes_of_words : ℕ → List ℕ → List ℕ
bytes_of_words k [] = []
bytes_of_words k (word ∷ words) = bytes_of_word k word ++ bytes_of_words k words

-- the first n words of bytes, k bytes to a word
unfoldable pub words_to : ℕ → ℕ → List ℕ → List ℕ
words_to k zero bytes = []
words_to k (suc n) bytes = word_of (take k bytes) ∷ words_to k n (drop k bytes)

-- the words of bytes, as many as are whole
unfoldable pub words_in : ℕ → List ℕ → List ℕ
words_in k bytes = words_to k (length bytes / k) bytes

-- the bytes of values; of a NaN those of one fixed pattern
unfoldable pub bytes_of : Format → List Float → List ℕ
bytes_of f values = bytes_of_words (bytes_each f) (map (to_bits f) values)

-- the values of bytes; any NaN's pattern is a NaN
unfoldable pub values_in : Format → List ℕ → List Float
values_in f bytes = map (of_bits f) (words_in (bytes_each f) bytes)

-- every value is one of the format
unfoldable pub all_fit : Format → List Float → Bool
all_fit f [] = true
all_fit f (v ∷ values) = fits f v && all_fit f values
