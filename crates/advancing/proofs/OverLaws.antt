-- Numbers in the first words of a history: one more of them, the length, and the last.
-- Assumes nothing.
use mathlib.Core.Path.{◌≡◌, refl, sym, ap, ◌∙◌}
use mathlib.Core.List.{List, [], ◌∷◌, ◌++◌}
use Prim.Native.Nat.{ℕ, zero, suc, ◌-◌, ◌≤◌, ◌<◌}
use native.Mathlib.Nat.{le_of_suc-le-suc, not-suc-le-zero}
use native.Mathlib.Omega.{arith}
use lib.ListN.{length, get_or, set, take, drop}
use lib.Seq.{length-take-le, take-append_seam, get_or-take}
use lib.Ieee.{Float}
use Rattle.solvers.specs.Promise.{over}

-- no number yet
pub over_none : (words : List Float) → over [] words ≡ words
unfolding over
over_none words = refl

-- the next number
pub set_over : (numbers words : List Float) (v : Float) → length numbers < length words
    → set (over numbers words) (length numbers) v ≡ over (numbers ++ (v ∷ [])) words
unfolding over
set_over [] [] v h = absurd (not-suc-le-zero h)
set_over [] (w ∷ words) v h = refl
set_over (x ∷ numbers) [] v h = absurd (not-suc-le-zero h)
set_over (x ∷ numbers) (w ∷ words) v h = ap (λ (l : List Float). x ∷ l) (set_over numbers words v (le_of_suc-le-suc h))

pub length_over : (numbers words : List Float) → length numbers ≤ length words → length (over numbers words) ≡ length words
unfolding over
length_over [] words h = refl
length_over (x ∷ numbers) [] h = absurd (not-suc-le-zero h)
length_over (x ∷ numbers) (w ∷ words) h = ap suc (length_over numbers words (le_of_suc-le-suc h))

-- a first number that is written already, and written once more
pub first_over : (words : List Float) (v : Float) → 1 ≤ length words → set words 0 v ≡ over (v ∷ []) (set words 0 v)
unfolding over
first_over [] v some = absurd (not-suc-le-zero some)
first_over (w ∷ words) v some = refl

pub over_first : (x : Float) (numbers words : List Float) (v : Float) → over (x ∷ numbers) (set words 0 v) ≡ over (x ∷ numbers) words
unfolding over
over_first x numbers [] v = refl
over_first x numbers (w ∷ words) v = refl

-- the numbers are the first words
pub take_over : (numbers words : List Float) → take (length numbers) (over numbers words) ≡ numbers
unfolding over
take_over numbers words = take-append_seam numbers (drop (length numbers) words)

-- a word that is there is read whatever stands for one that is not
any_default : (words : List Float) (i : ℕ) (d e : Float) → i < length words → get_or words i d ≡ get_or words i e
any_default [] i d e h = absurd (not-suc-le-zero h)
any_default (w ∷ words) zero d e h = refl
any_default (w ∷ words) (suc i) d e h = any_default words i d e (le_of_suc-le-suc h)

-- the last of the first words, read from all of them
pub last_of_first : (words : List Float) (count : ℕ) (d e : Float) → 1 ≤ count → count ≤ length words
    → get_or words (count - 1) d ≡ get_or (take count words) (length (take count words) - 1) e
last_of_first words count d e some fits =
    let long : length (take count words) ≡ count = length-take-le count words fits in
    any_default words (count - 1) d e (omega arith) ∙ sym (get_or-take count words (count - 1) e (omega arith))
    ∙ ap (λ (j : ℕ). get_or (take count words) (j - 1) e) (sym long)
