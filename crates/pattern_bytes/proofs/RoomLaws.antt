-- Room for words: a part of it has as many as the bytes that are read into it.
-- Assumes nothing.
use mathlib.Core.Path.{◌≡◌, sym, ap, ◌∙◌}
use mathlib.Core.Bool.{false}
use Prim.Native.Nat.{ℕ, ◌*◌, ◌/◌, ◌%◌, ◌≤◌}
use native.Mathlib.Omega.{arith}
use lib.ListN.{length, take, replicate, length-replicate}
use lib.Seq.{length-take-le}
use borrow.Author.Tests.{eqb-true, not-false}
use Rattle.pattern_bytes.specs.Checks.{broken, Held}

-- bytes that are not broken make whole words
pub whole_indexes : (bytes : ℕ) → broken 4 bytes ≡ false → bytes ≡ 4 * (bytes / 4)
whole_indexes bytes right = let even : bytes % 4 ≡ 0 = eqb-true (bytes % 4) 0 (not-false _ right) in omega (arith, even)

pub whole_values : (bytes : ℕ) → broken 8 bytes ≡ false → bytes ≡ 8 * (bytes / 8)
whole_values bytes right = let even : bytes % 8 ≡ 0 = eqb-true (bytes % 8) 0 (not-false _ right) in omega (arith, even)

-- a part of a room has as many words as it was asked for
pub part_of_room : {A : Type 0} (room count : ℕ) (x : A) → count ≤ room → length (take count (replicate room x)) ≡ count
part_of_room room count x few = length-take-le count (replicate room x) (rw (length-replicate room x) few)

-- a part that is asked for ends within the room
pub end_of_room : {A : Type 0} (room count : ℕ) (x : A) → count ≤ room → count ≤ length (replicate room x)
end_of_room room count x few = rw (length-replicate room x) few

-- and these are the words of the bytes
pub room_filled : {A : Type 0} (k room bytes : ℕ) (x : A) → Held k room bytes → bytes ≡ k * length (take (bytes / k) (replicate room x))
room_filled k room bytes x held = held.whole ∙ ap (λ (n : ℕ). k * n) (sym (part_of_room room (bytes / k) x held.few))

-- bytes that are few fit in less room
pub fewer : (room less bytes : ℕ) → Held 4 room bytes → bytes ≤ 4 * less → Held 4 less bytes
fewer room less bytes held few = record { whole = held.whole; few = omega (arith, few) }
