-- The rows of a pattern, one by one: the part of the columns that is lent is the row, its columns are below n, and what all rows say.
-- Assumes nothing.
use mathlib.Core.Path.{◌≡◌, refl, sym, ap, ◌∙◌}
use mathlib.Core.List.{List, ◌∷◌}
use mathlib.Core.Bool.{Bool, true, false, ◌&&◌}
use Prim.Native.Nat.{ℕ, ◌+◌, ◌-◌, ◌≤◌, ◌<◌}
use native.Mathlib.Omega.{arith}
use lib.ListN.{length, get_or, take, drop, length-take, length-drop}
use lib.Seq.{get_or-take, get_or-drop}
use lib.Dec.{ltb}
use borrow.Author.Tests.{ltb-true, lt-ltb}
use Rattle.base.specs.All.{all_to}
use Rattle.base.proofs.All.{all_more, all_stop, all_at, all_of, false_right}
use Rattle.patterns.specs.Pattern.{rows_of, row_of, all_below, once, all_once, own_absent, all_own_absent, valid_offsets, valid_entries, valid_pattern}
use Rattle.patterns.specs.Steps.{row_right, rows_right, valid_as, Ordered}
use Rattle.patterns.proofs.TestLaws.{all_both, all_same, all_less}
use Rattle.patterns.proofs.OffsetLaws.{offsets_step, offset_within}
use Rattle.patterns.proofs.OnceLaws.{once_after}

-- the part of the columns that is lent is the row
pub row_is : (o cs : List ℕ) (i first end : ℕ) → first ≡ get_or o i 0 → end ≡ get_or o (i + 1) 0 → take (end - first) (drop first cs) ≡ row_of o cs i
unfolding row_of
row_is o cs i first end p q = cc

-- a part of columns that are below n has columns below any number that is as large
pub part_below : (n most : ℕ) (cs : List ℕ) → all_below n cs ≡ true → n ≤ most → (m first : ℕ) → all_below most (take m (drop first cs)) ≡ true
unfolding all_below
part_below n most cs below more m first = all_of (λ e. ltb (get_or (take m (drop first cs)) e 0) most) (length (take m (drop first cs))) each
  where
    each : (k : ℕ) → k < length (take m (drop first cs)) → ltb (get_or (take m (drop first cs)) k 0) most ≡ true
    each k h =
        let k< : k < m = omega (arith, length-take m (drop first cs)) in
        let inside : first + k < length cs = omega (arith, length-take m (drop first cs), length-drop first cs) in
        let small : get_or cs (first + k) 0 < n = ltb-true (get_or cs (first + k) 0) n (all_at (λ e. ltb (get_or cs e 0) n) (first + k) (length cs) below inside) in
        let same : get_or (take m (drop first cs)) k 0 ≡ get_or cs (first + k) 0 = rw (get_or-take m (drop first cs) k 0 k<, get_or-drop first cs k 0) in
        lt-ltb (get_or (take m (drop first cs)) k 0) most (omega arith)

-- a row's ends are in order, and within the columns
module _ {o cs : List ℕ} (ordered : Ordered o cs) (i : ℕ) (inside : i < rows_of o) where
  pub row_in_order : get_or o i 0 ≤ get_or o (i + 1) 0
  row_in_order = offsets_step o cs ordered.valid i inside

  pub row_within : get_or o (i + 1) 0 ≤ length cs
  row_within = offset_within o cs ordered.valid (i + 1) (omega arith)

-- the rows up to the first that a test refuses, where the test is made of the part that is lent
module _ (test : ℕ → List ℕ → Bool) (o cs : List ℕ) (i first end : ℕ) (found : Bool) (p : first ≡ get_or o i 0) (q : end ≡ get_or o (i + 1) 0)
    (is : found ≡ test i (take (end - first) (drop first cs))) where
  here : found ≡ test i (row_of o cs i)
  here = is ∙ ap (test i) (row_is o cs i first end p q)

  pub rows_more : all_to (λ j. test j (row_of o cs j)) i ≡ true → found ≡ true → all_to (λ j. test j (row_of o cs j)) (i + 1) ≡ true
  rows_more right f = all_more _ i right (sym here ∙ f)

  pub rows_stop : (n : ℕ) → i < n → found ≡ false → all_to (λ j. test j (row_of o cs j)) n ≡ false
  rows_stop n below f = all_stop _ i n below (sym here ∙ f)

-- what is wrong with the first rows is wrong with all
pub rows_stop_at : (refused : Bool) (o cs : List ℕ) (m n : ℕ) → m ≤ n → rows_right refused o cs m ≡ false → rows_right refused o cs n ≡ false
unfolding rows_right
rows_stop_at refused o cs m n h wrong = all_less _ m n h wrong

-- with the own column refused it is a valid pattern
pub valid_pattern_lem : (o cs : List ℕ) → valid_as true o cs ≡ valid_pattern o cs
unfolding valid_as rows_right row_right valid_pattern valid_entries all_once all_own_absent
valid_pattern_lem o cs =
    let rows : rows_right true o cs (rows_of o) ≡ (all_once o cs && all_own_absent o cs) =
    all_same (λ i. once (i ∷ row_of o cs i)) (λ i. once (row_of o cs i) && own_absent i (row_of o cs i)) (rows_of o) (λ i. once_after i (row_of o cs i))
    ∙ sym (all_both (λ i. once (row_of o cs i)) (λ i. own_absent i (row_of o cs i)) (rows_of o)) in
    rw rows (regroup (valid_offsets o cs) (all_below (rows_of o) cs) (all_once o cs) (all_own_absent o cs))
  where
    regroup : (a b c d : Bool) → (a && (b && (c && d))) ≡ ((a && (b && c)) && d)
    regroup true true c d = refl
    regroup true false c d = refl
    regroup false b c d = refl

-- and else one in which it may stand
pub valid_entries_lem : (o cs : List ℕ) → valid_as false o cs ≡ valid_entries o cs
unfolding valid_as rows_right row_right valid_entries all_once
valid_entries_lem o cs = refl

-- which pass decides
module _ (refused : Bool) (o cs : List ℕ) where
  pub wrong_offsets : valid_offsets o cs ≡ false → valid_as refused o cs ≡ false
  unfolding valid_as
  wrong_offsets wrong = rw wrong

  pub wrong_column : all_below (rows_of o) cs ≡ false → valid_as refused o cs ≡ false
  unfolding valid_as
  wrong_column wrong = rw wrong (false_right (valid_offsets o cs) refl)

  pub rows_decide : valid_offsets o cs ≡ true → all_below (rows_of o) cs ≡ true → rows_right refused o cs (rows_of o) ≡ valid_as refused o cs
  unfolding valid_as
  rows_decide a b = rw (a, b)
