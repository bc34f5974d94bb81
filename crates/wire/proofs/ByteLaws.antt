-- How long words and values are as bytes, and that what is written reads back.
-- Assumes nothing.
use mathlib.Core.Path.{◌≡◌, refl, sym, ap, ◌∙◌}
use mathlib.Core.List.{List, [], ◌∷◌, map}
use mathlib.Core.Bool.{Bool, true, false, ◌&&◌}
use Prim.Native.Nat.{ℕ, zero, suc, ◌*◌, ◌/◌, ◌^◌, ◌<◌}
use native.Mathlib.Nat.{div-add-mod, div-lt_iff_lt-mul, mul-div_right}
use native.Mathlib.Omega.{arith}
use lib.Dec.{T}
use lib.ListN.{length, take, drop, length-append, length-map}
use lib.Seq.{take_at, drop_at}
use lib.Ieee.{Float, Format, binary32, binary64, of_bits, to_bits, fits}
use lib.Ieee.Bits.{of_bits-to_bits, to_bits-lt, of_bits-fits}
use Rattle.base.proofs.Each.{cons_same}
use Rattle.wire.specs.Bytes.{bytes_each, bytes_of_word, word_of, bytes_of_words, words_to, words_in, bytes_of, values_in, all_fit}

-- ---- lengths

pub length_word : (k word : ℕ) → length (bytes_of_word k word) ≡ k
unfolding bytes_of_word
length_word zero word = refl
length_word (suc k) word = ap suc (length_word k (word / 256))

pub length_out : (k : ℕ) (words : List ℕ) → length (bytes_of_words k words) ≡ k * length words
unfolding bytes_of_words
length_out k [] = omega arith
length_out k (word ∷ words) =
    rw (length-append (bytes_of_word k word) (bytes_of_words k words), length_word k word, length_out k words) (omega arith)

pub length_to : (k n : ℕ) (bytes : List ℕ) → length (words_to k n bytes) ≡ n
unfolding words_to
length_to k zero bytes = refl
length_to k (suc n) bytes = ap suc (length_to k n (drop k bytes))

pub length_words : (k : ℕ) (bytes : List ℕ) → length (words_in k bytes) ≡ length bytes / k
unfolding words_in
length_words k bytes = length_to k (length bytes / k) bytes

pub length_bytes : (f : Format) (values : List Float) → length (bytes_of f values) ≡ bytes_each f * length values
unfolding bytes_of
length_bytes f values = length_out (bytes_each f) (map (to_bits f) values) ∙ ap (λ (n : ℕ). bytes_each f * n) (length-map values (to_bits f))

pub length_values : (f : Format) (bytes : List ℕ) → length (values_in f bytes) ≡ length bytes / bytes_each f
unfolding values_in
length_values f bytes = length-map (words_in (bytes_each f) bytes) (of_bits f) ∙ length_words (bytes_each f) bytes

-- bytes of n words have n words
pub whole : (k n : ℕ) (bytes : List ℕ) → 0 < k → length bytes ≡ k * n → length bytes / k ≡ n
whole k n bytes some long = rw long (mul-div_right n some)

-- and those are what a reading function makes of them
pub whole_read : {A : Type 0} (read : ℕ → A) (k n : ℕ) (bytes : List ℕ) → 0 < k → length bytes ≡ k * n → map read (words_to k n bytes) ≡ map read (words_in k bytes)
unfolding words_in
whole_read read k n bytes some long = ap (λ (m : ℕ). map read (words_to k m bytes)) (sym (whole k n bytes some long))

-- ---- what is written reads back

word_back : (k word : ℕ) → word < 256 ^ k → word_of (bytes_of_word k word) ≡ word
unfolding bytes_of_word word_of
word_back zero word below = omega arith
word_back (suc k) word below =
    rw (word_back k (word / 256) ((div-lt_iff_lt-mul (omega arith)).1 (omega arith))) (omega (arith, div-add-mod word 256))

-- words that are written one after the other are read one after the other
pub first_back : (k word : ℕ) (words : List ℕ) → word < 256 ^ k
    → (word_of (take k (bytes_of_words k (word ∷ words))) ≡ word) × (drop k (bytes_of_words k (word ∷ words)) ≡ bytes_of_words k words)
unfolding bytes_of_words
first_back k word words below =
    let long = length_word k word in
    (rw (take_at (bytes_of_word k word) (bytes_of_words k words) k long) (word_back k word below), drop_at (bytes_of_word k word) (bytes_of_words k words) k long)

some_bytes : (f : Format) → 0 < bytes_each f
some_bytes binary32 = omega arith
some_bytes binary64 = omega arith

bits_below : (f : Format) (v : Float) → T (fits f v) → to_bits f v < 256 ^ bytes_each f
bits_below binary32 v held = to_bits-lt binary32 v held
bits_below binary64 v held = to_bits-lt binary64 v held

left : (a b : Bool) → T (a && b) → T a
left true b t = tt
left false b t = t

right : (a b : Bool) → T (a && b) → T b
right true b t = t
right false b t = absurd t

to_back : (f : Format) (values : List Float) → T (all_fit f values) → map (of_bits f) (words_to (bytes_each f) (length values) (bytes_of f values)) ≡ values
unfolding bytes_of words_to all_fit
to_back f [] held = refl
to_back f (v ∷ values) held =
    let v_fits : T (fits f v) = left (fits f v) (all_fit f values) held in
    let first = first_back (bytes_each f) (to_bits f v) (map (to_bits f) values) (bits_below f v v_fits) in
    cons_same (ap (of_bits f) first.0 ∙ of_bits-to_bits f v v_fits)
    (ap (λ (l : List ℕ). map (of_bits f) (words_to (bytes_each f) (length values) l)) first.1 ∙ to_back f values (right (fits f v) (all_fit f values) held))

pub values_back : (f : Format) (values : List Float) → T (all_fit f values) → values_in f (bytes_of f values) ≡ values
unfolding values_in
values_back f values held =
    sym (whole_read (of_bits f) (bytes_each f) (length values) (bytes_of f values) (some_bytes f) (length_bytes f values)) ∙ to_back f values held

pair : (a b : Bool) → T a → T b → T (a && b)
pair true b p q = q
pair false b p q = p

words_fit : (f : Format) (words : List ℕ) → T (all_fit f (map (of_bits f) words))
unfolding all_fit
words_fit f [] = tt
words_fit f (word ∷ words) = pair (fits f (of_bits f word)) (all_fit f (map (of_bits f) words)) (of_bits-fits f word) (words_fit f words)

-- what is read is of the format
pub read_fits : (f : Format) (bytes : List ℕ) → T (all_fit f (values_in f bytes))
unfolding values_in
read_fits f bytes = words_fit f (words_in (bytes_each f) bytes)
