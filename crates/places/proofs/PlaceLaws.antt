-- A turn of marking leaves the marks of earlier columns, and a turn of a lookup passes a place that is not the column's.
-- Assumes nothing.
use mathlib.Core.Path.{◌≡◌}
use mathlib.Core.List.{List}
use mathlib.Core.Logic.{⊎_elim}
use mathlib.Core.Bool.{true}
use Prim.Native.Nat.{ℕ, zero, suc, ◌+◌, ◌*◌, ◌/◌, ◌%◌, ◌≤◌, ◌<◌}
use native.Mathlib.Nat.{le_of_suc-le-suc, eq-or-lt_of_le, div-add-mod}
use native.Mathlib.Omega.{arith}
use lib.Dec.{ltb}
use lib.ListN.{length, get_or, set}
use lib.Seq.{get_or-set_same, get_or-set_other}
use borrow.Author.Tests.{ltb-true}
use Rattle.base.proofs.All.{all_at}
use Rattle.patterns.specs.Pattern.{all_below, once}
use Rattle.rows.specs.Lookup.{no_place, place_in}
use Rattle.rows.proofs.RowLaws.{once_at, absent_of}
use Rattle.rows.proofs.LookupLaws.{found_nowhere}
use Rattle.places.specs.Places.{Reached, MarkedTo, Marked}

pub small : (row : List ℕ) → all_below 4096 row ≡ true → (k : ℕ) → k < length row → get_or row k 0 < 4096
unfolding all_below
small row below k h = ltb-true _ _ (all_at (λ e. ltb (get_or row e 0) 4096) k (length row) below h)

-- one more column is marked, which is none of those before it
pub marked_more : (row marks : List ℕ) (k : ℕ) → once row ≡ true → k < length row → get_or row k 0 < length marks → MarkedTo row marks k
    → MarkedTo row (set marks (get_or row k 0) (k % 256)) (k + 1)
marked_more row marks k single h room old j before = ⊎_elim here there (eq-or-lt_of_le (le_of_suc-le-suc (omega arith)))
  where
    here : j ≡ k → Reached (get_or (set marks (get_or row k 0) (k % 256)) (get_or row j 0) 0) j
    here e = rw (e, get_or-set_same marks (get_or row k 0) (k % 256) 0 room) (k / 256, omega (arith, div-add-mod k 256))

    there : j < k → Reached (get_or (set marks (get_or row k 0) (k % 256)) (get_or row j 0) 0) j
    there less = rw (get_or-set_other marks (get_or row k 0) (get_or row j 0) (k % 256) 0 (once_at row j k single less h)) (old j less)

-- where a lookup may still find a column: at places that are reached from its guess
abbrev pub Ahead : List ℕ → ℕ → ℕ → Type 0
Ahead row column guess = (k : ℕ) → k < length row → get_or row k 0 ≡ column → Reached guess k

pub ahead_first : (row marks : List ℕ) (column guess : ℕ) → Marked row marks → guess ≡ get_or marks column 0 → Ahead row column guess
ahead_first row marks column guess marked is k h e = rw (is, ← e) (marked.each k h)

-- the place of the guess is not the column's
pub ahead_next : (row : List ℕ) (column guess : ℕ) → (get_or row guess 0 ≡ column → ⊥) → Ahead row column guess → Ahead row column (guess + 256)
ahead_next row column guess other old k h e = go (old k h e).0 (old k h e).1
  where
    go : (turns : ℕ) → k ≡ guess + 256 * turns → Reached (guess + 256) k
    go zero is = let here : k ≡ guess = omega (arith, is) in absurd (other (rw (← here) e))
    go (suc turns) is = (turns, omega (arith, is))

-- none is left
pub ahead_none : (row : List ℕ) (column guess : ℕ) → length row ≤ guess → Ahead row column guess → place_in row column ≡ no_place
ahead_none row column guess past old = found_nowhere row column (absent_of row column (length row) (λ k h e. absurd (omega (arith, h, past, (old k h e).1))))
