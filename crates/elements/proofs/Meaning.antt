-- What the definitions mean: the entry of a pair has its row and its column, and a vertex named twice has no entry.
-- Assumes nothing.
use mathlib.Core.Path.{◌≡◌, refl, sym, ap, ◌∙◌}
use mathlib.Core.List.{List}
use mathlib.Core.Bool.{true, false, not}
use Prim.Native.Nat.{ℕ, ◌+◌, ◌≤◌, ◌<◌}
use native.Mathlib.Omega.{arith}
use lib.ListN.{length, get_or}
use borrow.Author.Tests.{ne_eqb}
use Rattle.base.proofs.All.{all_at, all_stop, and_right}
use Rattle.answers.specs.Limits.{is_place}
use Rattle.patterns.specs.Pattern.{rows_of, row_of, own_absent, all_own_absent, valid_entries, valid_pattern}
use Rattle.patterns.proofs.Use.{valid_offsets_lem, row_length, row_column}
use Rattle.rows.proofs.LookupLaws.{Found, is_found, found_nowhere}
use Rattle.elements.specs.declared.unchecked.Rule.TheVariants.{Place}
use Rattle.elements.specs.Pairs.{to_diagonal, place_of, entry_of, is_stored, is_row_stored, are_stored, is_missing}

-- the entry of row i with column j, if there is one, is within row i and has column j
module _ (o cs : List ℕ) (valid : valid_entries o cs ≡ true) (i j : ℕ) (inside : i < rows_of o) (some : is_place (place_of o cs i j) ≡ true) where
  found : Found (row_of o cs i) j (place_of o cs i j)
  found = is_found (row_of o cs i) j (place_of o cs i j) refl some

  pub entry_in_row : (get_or o i 0 ≤ entry_of o cs i j) × (entry_of o cs i j < get_or o (i + 1) 0)
  entry_in_row =
      let long = row_length o cs (valid_offsets_lem o cs valid) i inside in
      (omega arith, omega (arith, found.below))

  pub entry_column : get_or cs (entry_of o cs i j) 0 ≡ j
  entry_column = sym (row_column o cs (valid_offsets_lem o cs valid) i (place_of o cs i j) inside found.below) ∙ found.there

-- a row's own column is absent, so that no entry is found for it
own_missing : (o cs : List ℕ) → valid_pattern o cs ≡ true → (i : ℕ) → i < rows_of o → is_place (place_of o cs i i) ≡ false
unfolding valid_pattern all_own_absent own_absent
own_missing o cs valid i inside =
    ap is_place (found_nowhere (row_of o cs i) i
    (all_at (λ k. own_absent k (row_of o cs k)) i (rows_of o) (and_right (valid_entries o cs) (all_own_absent o cs) valid) inside))

-- 01's "A vertex named twice has no entry and is refused by 7"
pub named_twice : (nodes o cs : List ℕ) → valid_pattern o cs ≡ true → (a b : ℕ) → a < length nodes → b < length nodes → (a ≡ b → ⊥)
    → get_or nodes b 0 ≡ get_or nodes a 0 → get_or nodes a 0 < rows_of o → is_missing Place nodes nodes o cs ≡ true
unfolding are_stored is_row_stored is_stored to_diagonal
named_twice nodes o cs valid a b ha hb apart same inside =
    let here : is_stored Place nodes nodes o cs a b ≡ false =
    rw (ne_eqb a b apart, same) (own_missing o cs valid (get_or nodes a 0) inside) in
    let row : is_row_stored Place nodes nodes o cs a ≡ false = all_stop (is_stored Place nodes nodes o cs a) b (length nodes) hb here in
    ap not (all_stop (is_row_stored Place nodes nodes o cs) a (length nodes) ha row)
