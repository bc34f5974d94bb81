-- Indexes and flags as bytes: what is written reads back, a flag is the machine's own reading of its word, and the first words of longer bytes.
-- Assumes nothing.
use mathlib.Core.Path.{◌≡◌, refl, sym, ap, ◌∙◌}
use mathlib.Core.List.{List, [], ◌∷◌, map}
use mathlib.Core.Bool.{Bool, true, false, cond}
use Prim.Native.Nat.{ℕ, zero, suc, ◌+◌, ◌-◌, ◌*◌, ◌/◌, ◌≤◌, ◌<◌}
use native.Mathlib.Omega.{arith}
use lib.Dec.{ltb}
use lib.IntN.{ℤ, pos, negsuc, ◌-ℤ◌}
use lib.ListN.{length, take, drop, length-map, length-drop}
use lib.Seq.{take-take, take-add, drop_at, length-take-le}
use mir.Syntax.{w32}
use mir.Val.{to_z, sel, SFits}
use mir.Facts.{to_z_pos}
use borrow.Author.Tests.{ltb-true}
use Rattle.base.proofs.All.{and_left, and_right}
use Rattle.base.proofs.Each.{cons_same}
use Rattle.wire.specs.Bytes.{bytes_of_word, word_of, bytes_of_words, words_to, words_in}
use Rattle.wire.specs.Words.{indexes_in, bytes_of_indexes, flag_of, flags_in, all_indexes}
use Rattle.wire.proofs.ByteLaws.{length_out, length_words, first_back, whole, whole_read}

pub length_index_bytes : (indexes : List ℕ) → length (bytes_of_indexes indexes) ≡ 4 * length indexes
unfolding bytes_of_indexes
length_index_bytes indexes = length_out 4 indexes

pub length_indexes : (bytes : List ℕ) → length (indexes_in bytes) ≡ length bytes / 4
unfolding indexes_in
length_indexes bytes = length_words 4 bytes

pub length_flags : (bytes : List ℕ) → length (flags_in bytes) ≡ length bytes / 4
unfolding flags_in
length_flags bytes = length-map (words_in 4 bytes) flag_of ∙ length_words 4 bytes

-- ---- what is written reads back

to_back : (indexes : List ℕ) → all_indexes indexes ≡ true → words_to 4 (length indexes) (bytes_of_words 4 indexes) ≡ indexes
unfolding words_to all_indexes
to_back [] held = refl
to_back (x ∷ indexes) held =
    let below : x < 4294967296 = ltb-true x 4294967296 (and_left (ltb x 4294967296) (all_indexes indexes) held) in
    let first = first_back 4 x indexes below in
    cons_same first.0
    (ap (words_to 4 (length indexes)) first.1 ∙ to_back indexes (and_right (ltb x 4294967296) (all_indexes indexes) held))

pub indexes_back : (indexes : List ℕ) → all_indexes indexes ≡ true → indexes_in (bytes_of_indexes indexes) ≡ indexes
unfolding indexes_in bytes_of_indexes words_in
indexes_back indexes held =
    ap (λ (n : ℕ). words_to 4 n (bytes_of_words 4 indexes)) (whole 4 (length indexes) (bytes_of_words 4 indexes) (omega arith) (length_out 4 indexes))
    ∙ to_back indexes held

-- ---- the first words of bytes that have more

to_take : (k n m : ℕ) (bytes : List ℕ) → n ≤ m → take n (words_to k m bytes) ≡ words_to k n bytes
unfolding words_to
to_take k zero m bytes few = refl
to_take k (suc n) zero bytes few = absurd (omega arith)
to_take k (suc n) (suc m) bytes few = ap (λ (l : List ℕ). word_of (take k bytes) ∷ l) (to_take k n m (drop k bytes) (omega arith))

drop_take : {A : Type 0} (k m : ℕ) (l : List A) → k ≤ length l → drop k (take (k + m) l) ≡ take m (drop k l)
drop_take k m l enough = rw (take-add k m l) (drop_at (take k l) (take m (drop k l)) k (length-take-le k l enough))

of_take : (k n : ℕ) (bytes : List ℕ) → k * n ≤ length bytes → words_to k n (take (k * n) bytes) ≡ words_to k n bytes
unfolding words_to
of_take k zero bytes enough = refl
of_take k (suc n) bytes enough =
    let e : k * suc n ≡ k + k * n = omega arith in
    let less : k * n ≤ length (drop k bytes) = rw (length-drop k bytes) (omega arith) in
    rw e (cons_same (ap word_of (take-take k (k + k * n) bytes (omega arith)))
    (ap (words_to k n) (drop_take k (k * n) bytes (omega arith)) ∙ of_take k n (drop k bytes) less))

take_map : {A B : Type 0} (g : A → B) (n : ℕ) (l : List A) → take n (map g l) ≡ map g (take n l)
take_map g zero l = refl
take_map g (suc n) [] = refl
take_map g (suc n) (x ∷ l) = cons_same refl (take_map g n l)

-- the flags of the bytes of the first n words are the first n flags
pub flags_take : (n : ℕ) (bytes : List ℕ) → 4 * n ≤ length bytes → flags_in (take (4 * n) bytes) ≡ take n (flags_in bytes)
unfolding flags_in words_in
flags_take n bytes enough =
    let long : length (take (4 * n) bytes) ≡ 4 * n = length-take-le (4 * n) bytes enough in
    sym (whole_read flag_of 4 n (take (4 * n) bytes) (omega arith) long) ∙ ap (map flag_of) (of_take 4 n bytes enough)
    ∙ sym (take_map flag_of n (words_to 4 (length bytes / 4) bytes) ∙ ap (map flag_of) (to_take 4 n (length bytes / 4) bytes (omega arith)))

-- ---- a flag as the machine holds it

pub flag_bits : (word : ℕ) → flag_of word ≡ to_z w32 word
flag_bits word = go (ltb word 2147483648)
  where
    go : (t : Bool) → cond t (pos word) (negsuc (4294967295 - word)) ≡ sel t (pos word) (negsuc (4294967296 - suc word))
    go true = refl
    go false = ap negsuc (omega arith)

-- -1 less the distance of a word from the largest one
less_one : (m : ℕ) → negsuc 0 -ℤ pos m ≡ negsuc m
less_one zero = refl
less_one (suc m) = ap negsuc (omega arith)

pub from_the_top : (word : ℕ) → 2147483648 ≤ word → negsuc 0 -ℤ to_z w32 (4294967295 - word) ≡ negsuc (4294967295 - word)
from_the_top word large = ap (λ (z : ℤ). negsuc 0 -ℤ z) (to_z_pos w32 {n = 4294967295 - word} (omega arith)) ∙ less_one (4294967295 - word)

pub top_fits : (word : ℕ) → 2147483648 ≤ word → SFits w32 (negsuc 0 -ℤ to_z w32 (4294967295 - word))
top_fits word large = rw (from_the_top word large) (record { sfits = omega arith })

-- the bytes of -1, of -2^31, of 2^31 - 1 and of 1, and one byte more that is no whole word
pub flags_read : flags_in (255 ∷ 255 ∷ 255 ∷ 255 ∷ 0 ∷ 0 ∷ 0 ∷ 128 ∷ 255 ∷ 255 ∷ 255 ∷ 127 ∷ 1 ∷ 0 ∷ 0 ∷ 0 ∷ 9 ∷ []) ≡ negsuc 0 ∷ negsuc 2147483647 ∷ pos 2147483647 ∷ pos 1 ∷ []
unfolding flags_in words_in words_to word_of
flags_read = refl

-- 258 is 02 01 00 00, both ways
pub index_bytes : (bytes_of_indexes (258 ∷ []) ≡ 2 ∷ 1 ∷ 0 ∷ 0 ∷ []) × (indexes_in (2 ∷ 1 ∷ 0 ∷ 0 ∷ []) ≡ 258 ∷ [])
unfolding bytes_of_indexes indexes_in words_in words_to word_of bytes_of_words bytes_of_word
index_bytes = (refl, refl)
