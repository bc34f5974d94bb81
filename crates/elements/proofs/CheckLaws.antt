-- The checks of an element and a matrix by their lengths: each way out of them, and what holds when none refuses.
-- Assumes nothing.
use mathlib.Core.Path.{◌≡◌, refl, sym, ◌∙◌}
use mathlib.Core.List.{List, [], ◌∷◌}
use mathlib.Core.Bool.{Bool, true, false, not, ◌||◌}
use Prim.Native.Nat.{ℕ, ◌-◌, ◌*◌, ◌≤◌}
use native.Mathlib.Nat.{mul-le-mul_right}
use native.Mathlib.Omega.{arith}
use lib.Dec.{eqb, ltb}
use lib.ListN.{length}
use borrow.Author.Tests.{eq-eqb, ne_eqb, eqb-true, ltb-false, not-false}
use Rattle.base.proofs.All.{or_left, or_right}
use Rattle.answers.specs.Checks.{◌when◌, first_of}
use Rattle.answers.specs.Limits.{nodes_out_of_range}
use Rattle.lent.specs.Steps.{Dim}
use Rattle.patterns.specs.Checks.{too_large}
use Rattle.patterns.proofs.SizeLaws.{rows_least, rows_most, columns_most}
use Rattle.patterns.specs.Pattern.{rows_of, valid_entries, valid_pattern}
use Rattle.patterns.proofs.Use.{pattern_entries}
use Rattle.elements.specs.declared.unchecked.Rule.{Rule}
use Rattle.elements.specs.declared.unchecked.Rule.TheVariants.{Never}
use Rattle.elements.specs.Pairs.{to_diagonal}
use Rattle.elements.specs.Fits.{AssemblyFits}
use Rattle.elements.proofs.FindLaws.{false_not_true}
use Rattle.elements.specs.Checks.{wrong_element, wrong_entries, wrong_diagonal, entry_lengths, element_lengths}

-- the numbers stay small
pub block_most : (n : ℕ) → Dim n → n * n ≤ 9
block_most n dim = omega (arith, dim.most, mul-le-mul_right n dim.most)

pub nodes_most : (m : ℕ) → nodes_out_of_range m ≡ false → m ≤ 8
nodes_most m few = ltb-false 8 m (or_right (ltb m 1) (ltb 8 m) few)

pub pairs_most : (m : ℕ) → nodes_out_of_range m ≡ false → m * m ≤ 64
pairs_most m few = omega (arith, nodes_most m few, mul-le-mul_right m (nodes_most m few))

pub element_most : (n m : ℕ) → Dim n → nodes_out_of_range m ≡ false → m * m * (n * n) ≤ 576
element_most n m dim few = omega (arith, block_most n dim, mul-le-mul_right (n * n) (pairs_most m few))

module _ (n o cs : ℕ) (dim : Dim n) (fits : too_large o cs ≡ false) where
  pub entries_most : n * n * cs ≤ 589815
  entries_most = omega (arith, mul-le-mul_right cs (block_most n dim), columns_most o cs fits)

  pub diagonal_most : n * n * (o - 1) ≤ 36864
  diagonal_most = omega (arith, mul-le-mul_right (o - 1) (block_most n dim), rows_most o cs fits)

  pub offsets_least : 1 ≤ o
  offsets_least = omega (arith, rows_least o cs fits)

-- the ways out of the check of an element
module _ (n rows cols element : ℕ) where
  pub nodes_wrong : nodes_out_of_range rows ≡ true → true ≡ wrong_element n rows cols element
  nodes_wrong many = rw many

  pub nodes_unlike : nodes_out_of_range rows ≡ false → (cols ≡ rows → ⊥) → true ≡ wrong_element n rows cols element
  nodes_unlike few other = rw (few, ne_eqb cols rows other)

  pub values_decide : nodes_out_of_range rows ≡ false → cols ≡ rows → not (eqb element (rows * rows * (n * n))) ≡ wrong_element n rows cols element
  values_decide few same = rw (few, eq-eqb cols rows same)

-- the ways out of the checks without a diagonal
module _ (n rows cols element o cs values : ℕ) where
  pub entry_large : too_large o cs ≡ true → 1 ≡ first_of (entry_lengths n rows cols element o cs values)
  entry_large large = rw large

  pub entry_element : too_large o cs ≡ false → wrong_element n rows cols element ≡ true → 2 ≡ first_of (entry_lengths n rows cols element o cs values)
  entry_element fits wrong = rw (fits, wrong)

  pub entry_values_lem : too_large o cs ≡ false → wrong_element n rows cols element ≡ false → (values ≡ n * n * cs → ⊥)
      → 2 ≡ first_of (entry_lengths n rows cols element o cs values)
  entry_values_lem fits right other = rw (fits, right, ne_eqb values (n * n * cs) other)

  pub entry_fits : too_large o cs ≡ false → wrong_element n rows cols element ≡ false → values ≡ n * n * cs
      → 0 ≡ first_of (entry_lengths n rows cols element o cs values)
  entry_fits fits right same = rw (fits, right, eq-eqb values (n * n * cs) same)

-- 1 under large, then 2 under wrong: what each of them is if the number is 0
large_then : (large wrong : Bool) → first_of ((1 when large) ∷ (2 when wrong) ∷ []) ≡ 0 → (large ≡ false) × (wrong ≡ false)
large_then true wrong zero_is = absurd (omega (arith, zero_is))
large_then false true zero_is = absurd (omega (arith, zero_is))
large_then false false zero_is = (refl, refl)

-- a second condition of 2
more_refused : (large wrong other : Bool) → (first_of ((1 when large) ∷ (2 when wrong) ∷ []) ≡ 0 → ⊥)
    → first_of ((1 when large) ∷ (2 when wrong) ∷ []) ≡ first_of ((1 when large) ∷ (2 when (wrong || other)) ∷ [])
more_refused true wrong other some = refl
more_refused false true other some = refl
more_refused false false other some = absurd (some refl)

more_decides : (large wrong other : Bool) → first_of ((1 when large) ∷ (2 when wrong) ∷ []) ≡ 0
    → first_of ((1 when large) ∷ (2 when (wrong || other)) ∷ []) ≡ first_of ((2 when other) ∷ [])
more_decides large wrong other zero_is =
    let none = large_then large wrong zero_is in
    rw (none.0, none.1)

-- the diagonal is compared last
module _ (n rows cols element o cs diagonal values : ℕ) where
  pub entry_refused : (first_of (entry_lengths n rows cols element o cs values) ≡ 0 → ⊥)
      → first_of (entry_lengths n rows cols element o cs values) ≡ first_of (element_lengths n rows cols element o cs diagonal values)
  entry_refused = more_refused (too_large o cs) (wrong_entries n rows cols element cs values) (not (eqb diagonal (n * n * (o - 1))))

  module _ (zero_is : first_of (entry_lengths n rows cols element o cs values) ≡ 0) where
    pub diagonal_wrong : (diagonal ≡ n * n * (o - 1) → ⊥) → 2 ≡ first_of (element_lengths n rows cols element o cs diagonal values)
    diagonal_wrong other =
        sym (more_decides (too_large o cs) (wrong_entries n rows cols element cs values) (not (eqb diagonal (n * n * (o - 1)))) zero_is
        ∙ rw (ne_eqb diagonal (n * n * (o - 1)) other))

    pub diagonal_right : diagonal ≡ n * n * (o - 1) → 0 ≡ first_of (element_lengths n rows cols element o cs diagonal values)
    diagonal_right same =
        sym (more_decides (too_large o cs) (wrong_entries n rows cols element cs values) (not (eqb diagonal (n * n * (o - 1)))) zero_is
        ∙ rw (eq-eqb diagonal (n * n * (o - 1)) same))

-- what the lengths are when none refuses
module _ (n rows cols element o cs values : ℕ) (zero_is : first_of (entry_lengths n rows cols element o cs values) ≡ 0) where
  pub sized : too_large o cs ≡ false
  sized = (large_then (too_large o cs) (wrong_entries n rows cols element cs values) zero_is).0

  shaped : wrong_entries n rows cols element cs values ≡ false
  shaped = (large_then (too_large o cs) (wrong_entries n rows cols element cs values) zero_is).1

  right : wrong_element n rows cols element ≡ false
  right = or_left (wrong_element n rows cols element) (not (eqb values (n * n * cs))) shaped

  pub values_are : values ≡ n * n * cs
  values_are = eqb-true _ _ (not-false _ (or_right (wrong_element n rows cols element) (not (eqb values (n * n * cs))) shaped))

  pub nodes_few : nodes_out_of_range rows ≡ false
  nodes_few = or_left (nodes_out_of_range rows) (not (eqb cols rows) || not (eqb element (rows * rows * (n * n)))) right

  lists : (not (eqb cols rows) || not (eqb element (rows * rows * (n * n)))) ≡ false
  lists = or_right (nodes_out_of_range rows) (not (eqb cols rows) || not (eqb element (rows * rows * (n * n)))) right

  pub lists_alike : cols ≡ rows
  lists_alike = eqb-true _ _ (not-false _ (or_left (not (eqb cols rows)) (not (eqb element (rows * rows * (n * n)))) lists))

  pub element_is : element ≡ rows * rows * (n * n)
  element_is = eqb-true _ _ (not-false _ (or_right (not (eqb cols rows)) (not (eqb element (rows * rows * (n * n)))) lists))

module _ (n rows cols element o cs diagonal values : ℕ) (zero_is : first_of (element_lengths n rows cols element o cs diagonal values) ≡ 0) where
  both : (too_large o cs ≡ false) × (wrong_diagonal n rows cols element o cs diagonal values ≡ false)
  both = large_then (too_large o cs) (wrong_diagonal n rows cols element o cs diagonal values) zero_is

  pub entries_too : first_of (entry_lengths n rows cols element o cs values) ≡ 0
  entries_too = rw (both.0, or_left (wrong_entries n rows cols element cs values) (not (eqb diagonal (n * n * (o - 1)))) both.1)

  pub diagonal_is : diagonal ≡ n * n * (o - 1)
  diagonal_is = eqb-true _ _ (not-false _ (or_right (wrong_entries n rows cols element cs values) (not (eqb diagonal (n * n * (o - 1)))) both.1))

-- what an assembly asks, from the checks that have passed
fits_entries : (n : ℕ) (rule : Rule) (rows cols : List ℕ) (element : ℕ) (offsets columns : List ℕ) (diagonal values : ℕ) → Dim n
    → first_of (entry_lengths n (length rows) (length cols) element (length offsets) (length columns) values) ≡ 0 → valid_entries offsets columns ≡ true
    → ((a b : ℕ) → to_diagonal rule rows cols a b ≡ true → diagonal ≡ n * n * rows_of offsets)
    → AssemblyFits n rule rows cols element offsets columns diagonal values
fits_entries n rule rows cols element offsets columns diagonal values dim zero_is valid there =
    let few = nodes_few n (length rows) (length cols) element (length offsets) (length columns) values zero_is in
    record {
      dim = dim;
      few = nodes_most (length rows) few;
      alike = lists_alike n (length rows) (length cols) element (length offsets) (length columns) values zero_is;
      of_element = element_is n (length rows) (length cols) element (length offsets) (length columns) values zero_is;
      pattern = record { sized = sized n (length rows) (length cols) element (length offsets) (length columns) values zero_is; valid = valid };
      of_values = values_are n (length rows) (length cols) element (length offsets) (length columns) values zero_is;
      of_diagonal = there;
    }

-- no pair of `blkcsr` goes to the diagonal
pub fits_never : (n : ℕ) (rows cols : List ℕ) (element : ℕ) (offsets columns : List ℕ) (diagonal values : ℕ) → Dim n
    → first_of (entry_lengths n (length rows) (length cols) element (length offsets) (length columns) values) ≡ 0 → valid_entries offsets columns ≡ true
    → AssemblyFits n Never rows cols element offsets columns diagonal values
unfolding to_diagonal
fits_never n rows cols element offsets columns diagonal values dim zero_is valid =
    fits_entries n Never rows cols element offsets columns diagonal values dim zero_is valid (λ _ _ there. absurd (false_not_true there))

pub fits_pattern : (n : ℕ) (rule : Rule) (rows cols : List ℕ) (element : ℕ) (offsets columns : List ℕ) (diagonal values : ℕ) → Dim n
    → first_of (element_lengths n (length rows) (length cols) element (length offsets) (length columns) diagonal values) ≡ 0 → valid_pattern offsets columns ≡ true
    → AssemblyFits n rule rows cols element offsets columns diagonal values
fits_pattern n rule rows cols element offsets columns diagonal values dim zero_is valid =
    fits_entries n rule rows cols element offsets columns diagonal values dim
    (entries_too n (length rows) (length cols) element (length offsets) (length columns) diagonal values zero_is) (pattern_entries offsets columns valid)
    (λ _ _ _. diagonal_is n (length rows) (length cols) element (length offsets) (length columns) diagonal values zero_is)
