-- The turns of the loops that read and write bytes.
-- Assumes nothing.
use mathlib.Core.Path.{◌≡◌, refl, sym, ap, ◌∙◌}
use mathlib.Core.List.{List, [], ◌∷◌, ◌++◌, map, append_assoc, append-nil}
use Prim.Native.Nat.{ℕ, suc, ◌+◌, ◌-◌, ◌*◌, ◌/◌, ◌%◌, ◌≤◌, ◌<◌}
use native.Mathlib.Numerals.{add-one}
use native.Mathlib.Omega.{arith}
use lib.ListN.{length, take, drop, get_or}
use Rattle.std.specs.Int.{w32, w64, from_le_bytes}
use lib.Seq.{paste, take_at, drop_at, drop-cons, drop-drop, take-suc, take-length, drop-length, take_all, length-take-le}
use Rattle.base.specs.Each.{each}
use Rattle.base.proofs.Each.{each_same, cons_same}
use Rattle.wire.specs.Bytes.{bytes_of_word, word_of, bytes_of_words, words_to}
use Rattle.wire.proofs.ByteLaws.{length_word, length_out}

-- ---- a word read

-- the first byte of a word, and the others
next : (k : ℕ) (bytes : List ℕ) (at : ℕ) → at < length bytes
    → word_of (take (suc k) (drop at bytes)) ≡ get_or bytes at 0 + 256 * word_of (take k (drop (at + 1) bytes))
unfolding word_of
next k bytes at within = rw (drop-cons bytes at 0 within, ← add-one at)

byte : (k : ℕ) (bytes : List ℕ) (at j : ℕ) → at + j < length bytes
    → word_of (take (suc k) (drop (at + j) bytes)) ≡ get_or bytes (at + j) 0 + 256 * word_of (take k (drop (at + (j + 1)) bytes))
byte k bytes at j within =
    let e : at + j + 1 ≡ at + (j + 1) = omega arith in
    rw e at (next k bytes (at + j) within)

pub eight_bytes : (l : List ℕ) (at : ℕ) → at + 8 ≤ length l
    → from_le_bytes w64 (get_or l at 0 ∷ get_or l (at + 1) 0 ∷ get_or l (at + 2) 0 ∷ get_or l (at + 3) 0
    ∷ get_or l (at + 4) 0 ∷ get_or l (at + 5) 0 ∷ get_or l (at + 6) 0 ∷ get_or l (at + 7) 0 ∷ [])
    ≡ word_of (take 8 (drop at l))
unfolding word_of
eight_bytes l at fits =
    omega (
      arith,
      next 7 l at (omega arith),
      byte 6 l at 1 (omega arith),
      byte 5 l at 2 (omega arith),
      byte 4 l at 3 (omega arith),
      byte 3 l at 4 (omega arith),
      byte 2 l at 5 (omega arith),
      byte 1 l at 6 (omega arith),
      byte 0 l at 7 (omega arith),
    )

pub four_bytes : (l : List ℕ) (at : ℕ) → at + 4 ≤ length l
    → from_le_bytes w32 (get_or l at 0 ∷ get_or l (at + 1) 0 ∷ get_or l (at + 2) 0 ∷ get_or l (at + 3) 0 ∷ []) ≡ word_of (take 4 (drop at l))
unfolding word_of
four_bytes l at fits =
    omega (arith, next 3 l at (omega arith), byte 2 l at 1 (omega arith), byte 1 l at 2 (omega arith), byte 0 l at 3 (omega arith))

-- ---- a word's bytes, one at a time: what is left of the word has the bytes that are left
pub rest_all : (n word : ℕ) → bytes_of_word (n - 0) word ≡ drop 0 (bytes_of_word n word)
rest_all n word =
    let e : n - 0 ≡ n = omega arith in
    rw e

pub rest_next : (n k rest : ℕ) (bytes : List ℕ) → bytes_of_word (n - k) rest ≡ drop k bytes → k < n → k < length bytes
    → (get_or bytes k 0 ≡ rest % 256) × (bytes_of_word (n - (k + 1)) (rest / 256) ≡ drop (k + 1) bytes)
unfolding bytes_of_word
rest_next n k rest bytes same below within =
    let one : n - k ≡ suc (n - (k + 1)) = omega arith in
    let parts : ◌≡◌ {A = List ℕ} (rest % 256 ∷ bytes_of_word (n - (k + 1)) (rest / 256)) (get_or bytes k 0 ∷ drop (k + 1) bytes) =
    rw (one, drop-cons bytes k 0 within, ← add-one k) at same in
    (cc, cc)

-- ---- words read one at a time

-- word i of bytes, k bytes to a word
abbrev pub word_at : ℕ → List ℕ → ℕ → ℕ
word_at k bytes i = word_of (take k (drop (k * i) bytes))

none : (k : ℕ) → k * 0 ≡ 0
none k = omega arith

shifted : (k i : ℕ) (bytes : List ℕ) → drop (k * suc i) bytes ≡ drop (k * i) (drop k bytes)
shifted k i bytes =
    let e : k * suc i ≡ k + k * i = omega arith in
    rw (drop-drop (k * i) k bytes, e)

-- reading a word for every element of a slice reads them all
pub read_words : {A : Type 0} (read : ℕ → A) (k : ℕ) (bytes : List ℕ) (l : List A) → each (λ i _. read (word_at k bytes i)) l ≡ map read (words_to k (length l) bytes)
unfolding each words_to
read_words read k bytes [] = refl
read_words {A} read k bytes (x ∷ l) =
    let g : ℕ → A → A = λ i _. read (word_at k bytes (suc i)) in
    let h : ℕ → A → A = λ i _. read (word_at k (drop k bytes) i) in
    let step : (i : ℕ) (y : A) → i < length l → g i y ≡ h i y =
    λ i y below. ap (λ (m : List ℕ). read (word_of (take k m))) (shifted k i bytes) in
    cons_same (ap (λ (m : ℕ). read (word_of (take k (drop m bytes)))) (none k)) (each_same g h l step ∙ read_words read k (drop k bytes) l)

-- ---- words written one at a time

out_append : (k : ℕ) (u v : List ℕ) → bytes_of_words k (u ++ v) ≡ bytes_of_words k u ++ bytes_of_words k v
unfolding bytes_of_words
out_append k [] v = refl
out_append k (x ∷ u) v = rw (out_append k u v) (sym (append_assoc (bytes_of_word k x) (bytes_of_words k u) (bytes_of_words k v)))

-- the first i words written over the bytes that were there
abbrev pub written : ℕ → List ℕ → ℕ → List ℕ → List ℕ
written k words i bytes = bytes_of_words k (take i words) ++ drop (k * i) bytes

paste_seam : (front back new : List ℕ) (at k : ℕ) → length front ≡ at → length new ≡ k → paste (front ++ back) at new k ≡ (front ++ new) ++ drop k back
paste_seam front back new at k long short =
    rw (take_at front back at long, take_all k new (omega arith), ← drop-drop k at (front ++ back), drop_at front back at long)

write_next : (k : ℕ) (words : List ℕ) (i d : ℕ) (bytes : List ℕ) → i < length words → length bytes ≡ k * length words
    → paste (written k words i bytes) (k * i) (bytes_of_word k (get_or words i d)) k ≡ written k words (i + 1) bytes
unfolding bytes_of_words
write_next k words i d bytes below long =
    let word = bytes_of_word k (get_or words i d) in
    let front = bytes_of_words k (take i words) in
    let fronts : length front ≡ k * i = length_out k (take i words) ∙ ap (λ (n : ℕ). k * n) (length-take-le i words (omega arith)) in
    let next : k * (i + 1) ≡ k * i + k = omega arith in
    let more : bytes_of_words k (take (i + 1) words) ≡ front ++ word =
    rw (add-one i, take-suc words i d below, out_append k (take i words) (get_or words i d ∷ []), append-nil) in
    paste_seam front (drop (k * i) bytes) word (k * i) k fronts (length_word k (get_or words i d))
    ∙ rw (drop-drop k (k * i) bytes, more, next)

-- a turn: the word w of element i goes in
pub write_turn : (k : ℕ) (words : List ℕ) (i d : ℕ) (bytes y z : List ℕ) (w : ℕ) → i < length words → length bytes ≡ k * length words
    → y ≡ written k words i bytes → w ≡ get_or words i d → z ≡ paste y (k * i) (bytes_of_word k w) k → z ≡ written k words (i + 1) bytes
write_turn k words i d bytes y z w below long before is after =
    after ∙ ap (λ (l : List ℕ). paste l (k * i) (bytes_of_word k w) k) before
    ∙ ap (λ (b : ℕ). paste (written k words i bytes) (k * i) (bytes_of_word k b) k) is
    ∙ write_next k words i d bytes below long

pub write_none : (k : ℕ) (words bytes : List ℕ) → bytes ≡ written k words 0 bytes
unfolding bytes_of_words
write_none k words bytes = rw (none k)

pub written_all : (k : ℕ) (words bytes : List ℕ) → length bytes ≡ k * length words → written k words (length words) bytes ≡ bytes_of_words k words
written_all k words bytes long =
    rw (take-length words, ← long, drop-length bytes, append-nil)
