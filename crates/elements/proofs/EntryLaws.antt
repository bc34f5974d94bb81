-- The entry of a row with a column: a lookup in the row's part of the columns finds it, and it is one of the pattern's entries.
-- Assumes nothing.
use mathlib.Core.Path.{◌≡◌, refl, sym, ap}
use mathlib.Core.List.{List}
use mathlib.Core.Bool.{Bool, true, false, not, cond}
use Prim.Native.Nat.{ℕ, ◌+◌, ◌-◌, ◌≤◌, ◌<◌}
use native.Mathlib.Omega.{arith}
use lib.Dec.{eqb}
use lib.ListN.{length, get_or, take, drop}
use borrow.Author.Tests.{ne_eqb, eqb-true, not-false}
use Rattle.answers.specs.Limits.{is_place}
use Rattle.patterns.specs.Pattern.{rows_of, row_of, valid_offsets}
use Rattle.patterns.proofs.SizeLaws.{columns_most}
use Rattle.patterns.proofs.Use.{valid_offsets_lem, row_ends, row_length}
use Rattle.rows.specs.Lookup.{no_place, place_in}
use Rattle.rows.proofs.LookupLaws.{is_found}
use Rattle.elements.specs.Pairs.{place_of, entry_of}
use Rattle.elements.specs.Fits.{PatternFits, entry_or_none}

-- what a lookup in the row's part of the columns answers
pub looked_up : (o cs : List ℕ) (i j place : ℕ) → place ≡ place_in (take (get_or o (i + 1) 0 - get_or o i 0) (drop (get_or o i 0) cs)) j → place ≡ place_of o cs i j
unfolding row_of
looked_up o cs i j place found = found

-- the two ways on
pub no_entry : (o cs : List ℕ) (i j place : ℕ) → place ≡ place_of o cs i j → is_place place ≡ false → place ≡ entry_or_none o cs i j
unfolding entry_or_none
no_entry o cs i j place found none =
    rw (← found, none) (eqb-true place no_place (not-false (eqb place no_place) none))

pub some_entry : (o cs : List ℕ) (i j place : ℕ) → place ≡ place_of o cs i j → is_place place ≡ true → get_or o i 0 + place ≡ entry_or_none o cs i j
unfolding entry_or_none
some_entry o cs i j place found some = rw (← found, some)

module _ {o cs : List ℕ} (fit : PatternFits o cs) (i : ℕ) (h : i < rows_of o) where
  ordered : valid_offsets o cs ≡ true
  ordered = valid_offsets_lem o cs fit.valid

  pub few_columns : length cs ≤ 65535
  few_columns = columns_most (length o) (length cs) fit.sized

  pub ends : (get_or o i 0 ≤ get_or o (i + 1) 0) × (get_or o (i + 1) 0 ≤ length cs)
  ends = row_ends o cs ordered i h

  pub short : length (take (get_or o (i + 1) 0 - get_or o i 0) (drop (get_or o i 0) cs)) ≤ 65535
  unfolding row_of
  short = omega (arith, ends, few_columns, row_length o cs ordered i h)

  -- an entry that is there
  pub entry_below : (j place : ℕ) → place ≡ place_of o cs i j → is_place place ≡ true → get_or o i 0 + place < length cs
  entry_below j place found some =
      omega (arith, ends, row_length o cs ordered i h, (is_found (row_of o cs i) j place (sym found) some).below)

  -- it is no place exactly if the column has none in its row
  pub entry_told : (j : ℕ) → is_place (entry_or_none o cs i j) ≡ is_place (place_of o cs i j)
  unfolding entry_or_none
  entry_told j = go (is_place (place_of o cs i j)) refl
    where
      go : (b : Bool) → is_place (place_of o cs i j) ≡ b → is_place (cond b (entry_of o cs i j) no_place) ≡ b
      go true some = ap not (ne_eqb (entry_of o cs i j) no_place (λ e. absurd (omega (arith, few_columns, entry_below j (place_of o cs i j) refl some, e))))
      go false none = refl

  pub entry_is : (j : ℕ) → is_place (place_of o cs i j) ≡ true → entry_or_none o cs i j ≡ entry_of o cs i j
  unfolding entry_or_none
  entry_is j some = rw some
