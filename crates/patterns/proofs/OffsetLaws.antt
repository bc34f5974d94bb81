-- The rules of offsets: which of them decides, and where a row then begins and ends.
-- Assumes nothing.
use mathlib.Core.Path.{◌≡◌, refl}
use mathlib.Core.List.{List, [], ◌∷◌}
use mathlib.Core.Bool.{true, false, ◌&&◌}
use Prim.Native.Nat.{ℕ, zero, suc, ◌+◌, ◌-◌, ◌≤◌, ◌<◌}
use native.Mathlib.Nat.{not-suc-le-zero}
use native.Mathlib.Omega.{arith}
use lib.ListN.{length, get_or}
use lib.Dec.{eqb}
use borrow.Author.Tests.{leb-true, eqb-true, eq-eqb, ne_eqb}
use Rattle.base.proofs.All.{all_at, and_left, and_right, false_right}
use Rattle.patterns.specs.Pattern.{rows_of, first_is_zero, never_fall, last_is_count, all_below, all_once, all_own_absent, valid_offsets, valid_entries, valid_pattern}

-- where there is an offset, what a list gives past its end doesn't matter
first_same : (o : List ℕ) → 1 ≤ length o → get_or o 0 1 ≡ get_or o 0 0
first_same [] some = absurd (not-suc-le-zero some)
first_same (x ∷ o) some = refl

zero_of : (o : List ℕ) → get_or o 0 1 ≡ 0 → get_or o 0 0 ≡ 0
zero_of [] is = refl
zero_of (x ∷ o) is = is

module _ (o cs : List ℕ) where
  pub wrong_first : 1 ≤ length o → (get_or o 0 0 ≡ 0 → ⊥) → valid_offsets o cs ≡ false
  unfolding valid_offsets first_is_zero
  wrong_first some other = rw (first_same o some, ne_eqb (get_or o 0 0) 0 other)

  pub wrong_order : never_fall o ≡ false → valid_offsets o cs ≡ false
  unfolding valid_offsets
  wrong_order falls = rw falls (false_right (first_is_zero o) refl)

  -- the last one decides, if the others are right
  pub last_decides : 1 ≤ length o → get_or o 0 0 ≡ 0 → never_fall o ≡ true → (last : ℕ) → last ≡ get_or o (rows_of o) 0
      → eqb last (length cs) ≡ valid_offsets o cs
  unfolding valid_offsets first_is_zero last_is_count
  last_decides some first rising last is = rw (first_same o some, eq-eqb (get_or o 0 0) 0 first, rising, is)

  -- where a row begins and ends
  module _ (valid : valid_offsets o cs ≡ true) where
    rest : (never_fall o && last_is_count o cs) ≡ true
    unfolding valid_offsets
    rest = and_right (first_is_zero o) (never_fall o && last_is_count o cs) valid

    pub offsets_first : get_or o 0 0 ≡ 0
    unfolding valid_offsets first_is_zero
    offsets_first = zero_of o (eqb-true (get_or o 0 1) 0 (and_left (first_is_zero o) (never_fall o && last_is_count o cs) valid))

    pub offsets_last : get_or o (rows_of o) 0 ≡ length cs
    unfolding last_is_count
    offsets_last = eqb-true (get_or o (rows_of o) 0) (length cs) (and_right (never_fall o) (last_is_count o cs) rest)

    pub offsets_step : (i : ℕ) → i < rows_of o → get_or o i 0 ≤ get_or o (i + 1) 0
    unfolding never_fall
    offsets_step i below = leb-true _ _ (all_at _ i (rows_of o) (and_left (never_fall o) (last_is_count o cs) rest) below)

    up : (i d : ℕ) → i + d ≤ rows_of o → get_or o i 0 ≤ get_or o (i + d) 0
    up i zero within = rw (same) (omega arith)
      where
        same : i + 0 ≡ i
        same = omega arith
    up i (suc d) within =
        let e : i + suc d ≡ (i + d) + 1 = omega arith in
        rw e (omega (arith, up i d (omega arith), offsets_step (i + d) (omega arith)))

    pub offset_within : (i : ℕ) → i ≤ rows_of o → get_or o i 0 ≤ length cs
    offset_within i within =
        let e : i + (rows_of o - i) ≡ rows_of o = omega arith in
        let h : get_or o i 0 ≤ get_or o (rows_of o) 0 = rw e at (up i (rows_of o - i) (omega arith)) in
        omega (arith, h, offsets_last)

-- a valid pattern has valid offsets
pub entries_offsets : (o cs : List ℕ) → valid_entries o cs ≡ true → valid_offsets o cs ≡ true
unfolding valid_entries
entries_offsets o cs valid = and_left (valid_offsets o cs) (all_below (rows_of o) cs && all_once o cs) valid

pub pattern_offsets : (o cs : List ℕ) → valid_pattern o cs ≡ true → valid_offsets o cs ≡ true
unfolding valid_pattern
pattern_offsets o cs valid = entries_offsets o cs (and_left (valid_entries o cs) (all_own_absent o cs) valid)

-- so that the ends of its rows are in order, and within the columns
module _ (o cs : List ℕ) (valid : valid_pattern o cs ≡ true) (i : ℕ) (inside : i < rows_of o) where
  pub pattern_row_in_order : get_or o i 0 ≤ get_or o (i + 1) 0
  pattern_row_in_order = offsets_step o cs (pattern_offsets o cs valid) i inside

  pub pattern_row_within : get_or o (i + 1) 0 ≤ length cs
  pattern_row_within = offset_within o cs (pattern_offsets o cs valid) (i + 1) (omega arith)
