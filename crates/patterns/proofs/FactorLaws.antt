-- The rows of a factor pattern, one by one: which test of a row decides, and what all of them say.
-- Assumes nothing.
use mathlib.Core.Path.{◌≡◌, refl, sym, ap, ◌∙◌}
use mathlib.Core.List.{List}
use mathlib.Core.Bool.{Bool, true, false}
use Prim.Native.Nat.{ℕ, ◌+◌, ◌-◌, ◌≤◌, ◌<◌}
use native.Mathlib.Omega.{arith}
use lib.ListN.{get_or, take, drop}
use lib.Dec.{eqb}
use borrow.Author.Tests.{eqb-true, eqb-false, eq-eqb, ne_eqb}
use Rattle.base.specs.All.{all_to}
use Rattle.base.proofs.All.{false_right}
use Rattle.patterns.specs.Pattern.{rows_of, row_of, rises, all_rise, split_of, true_splits, valid_splits}
use Rattle.patterns.specs.Steps.{first_above, factor_row}
use Rattle.patterns.proofs.TestLaws.{all_both}
use Rattle.patterns.proofs.RowLaws.{row_is}

eqb_less : (split first x : ℕ) → first ≤ split → eqb (split - first) x ≡ eqb split (first + x)
eqb_less split first x below = go (eqb (split - first) x) refl
  where
    go : (b : Bool) → eqb (split - first) x ≡ b → eqb (split - first) x ≡ eqb split (first + x)
    go true e = e ∙ sym (eq-eqb split (first + x) (omega (arith, eqb-true (split - first) x e)))
    go false e = e ∙ sym (ne_eqb split (first + x) (λ s. eqb-false (split - first) x e (omega arith)))

module _ (own first split : ℕ) (row : List ℕ) where
  pub falls : rises row ≡ false → factor_row own first split row ≡ false
  unfolding factor_row
  falls e = rw e

  pub split_before : split < first → factor_row own first split row ≡ false
  unfolding factor_row
  split_before h = false_right (rises row) (ne_eqb split (first + first_above own row) (λ e. absurd (omega (arith, e, h))))

  pub place_decides : rises row ≡ true → first ≤ split → eqb (split - first) (first_above own row) ≡ factor_row own first split row
  unfolding factor_row
  place_decides rising h = rw rising (eqb_less split first (first_above own row) h)

-- row i of a pattern
abbrev pub factor_row_at : List ℕ → List ℕ → List ℕ → ℕ → Bool
factor_row_at offsets columns splits i = factor_row i (get_or offsets i 0) (get_or splits i 0) (row_of offsets columns i)

pub all_rows : (o cs s : List ℕ) → valid_splits o cs s ≡ all_to (factor_row_at o cs s) (rows_of o)
unfolding valid_splits all_rise true_splits split_of factor_row
all_rows o cs s = all_both (λ i. rises (row_of o cs i)) (λ i. eqb (get_or s i 0) (get_or o i 0 + first_above i (row_of o cs i))) (rows_of o)

-- what its test finds is what is said of the row
pub row_tested : (o cs s : List ℕ) (i first end split : ℕ) (found : Bool) → first ≡ get_or o i 0 → end ≡ get_or o (i + 1) 0 → split ≡ get_or s i 0
    → found ≡ factor_row i first split (take (end - first) (drop first cs)) → found ≡ factor_row_at o cs s i
row_tested o cs s i first end split found p q r e = e ∙ ap (factor_row i first split) (row_is o cs i first end p q) ∙ rw (p, r)
