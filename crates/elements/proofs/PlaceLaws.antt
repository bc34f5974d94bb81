-- The entries that are kept while pairs are looked up: one more pair, one more row node.
-- Assumes nothing.
use mathlib.Core.Path.{◌≡◌, sym, ap, ◌∙◌}
use mathlib.Core.List.{List}
use mathlib.Core.Logic.{⊎_elim}
use mathlib.Core.Bool.{Bool, true, false, cond}
use Prim.Native.Nat.{ℕ, ◌+◌, ◌*◌, ◌≤◌, ◌<◌}
use native.Mathlib.Nat.{not-suc-le-zero, le_of_suc-le-suc, eq-or-lt_of_le}
use native.Mathlib.Omega.{arith}
use lib.ListN.{length, set, length-set}
use lib.Seq.{get_or-set_same, get_or-set_other}
use Rattle.elements.specs.declared.unchecked.Rule.{Rule}
use Rattle.elements.specs.Pairs.{to_diagonal, entry_at}
use Rattle.elements.specs.Fits.{kept_at, Placed}

not_both : {b : Bool} → b ≡ true → b ≡ false → ⊥
not_both p q = let z : ◌≡◌ {A = ℕ} 1 0 = ap (λ (b : Bool). cond b 1 0) (sym p ∙ q) in absurd (omega arith)

-- with at most 8 column nodes a place belongs to one pair
same_pair : (i j a b : ℕ) → j < 8 → b < 8 → 8 * i + j ≡ 8 * a + b → (i ≡ a) × (j ≡ b)
same_pair i j a b hj hb e = (omega arith, omega arith)

module _ (rule : Rule) (rows cols offsets columns : List ℕ) where
  pub placed_none : (places : List ℕ) → length places ≡ 64 → Placed rule rows cols offsets columns 0 places
  placed_none places room = record { room = room; kept = λ a b _ none _. absurd (not-suc-le-zero none) }

  -- the row nodes before a, and all column nodes of a
  pub placed_row : (few : length cols ≤ 8) (a : ℕ) (places : List ℕ) → Placed rule rows cols offsets columns (8 * a + length cols) places
      → Placed rule rows cols offsets columns (8 * (a + 1)) places
  placed_row few a places old = record { room = old.room; kept = λ i j hj before. old.kept i j hj (omega arith) }

  module _ (few : length cols ≤ 8) (a b : ℕ) (hb : b < length cols) where
    -- the next pair goes to the diagonal
    pub placed_skip : (places : List ℕ) → to_diagonal rule rows cols a b ≡ true → Placed rule rows cols offsets columns (8 * a + b) places
        → Placed rule rows cols offsets columns (8 * a + b + 1) places
    placed_skip places diagonal old = record { room = old.room; kept = each }
      where
        each : (i j : ℕ) → j < length cols → 8 * i + j < 8 * a + b + 1 → to_diagonal rule rows cols i j ≡ false → kept_at places i j ≡ entry_at rows cols offsets columns i j
        each i j hj before apart = ⊎_elim here (λ earlier. old.kept i j hj earlier apart) (eq-or-lt_of_le (le_of_suc-le-suc (omega arith)))
          where
            here : 8 * i + j ≡ 8 * a + b → kept_at places i j ≡ entry_at rows cols offsets columns i j
            here e =
                let same = same_pair i j a b (omega arith) (omega arith) e in
                absurd (not_both diagonal (rw (same.0, same.1) at apart))

    -- its entry is kept
    pub placed_more : (places : List ℕ) (entry : ℕ) → 8 * a + b < length places → entry ≡ entry_at rows cols offsets columns a b
        → Placed rule rows cols offsets columns (8 * a + b) places → Placed rule rows cols offsets columns (8 * a + b + 1) (set places (8 * a + b) entry)
    placed_more places entry room is old = record { room = length-set places (8 * a + b) entry ∙ old.room; kept = each }
      where
        each : (i j : ℕ) → j < length cols → 8 * i + j < 8 * a + b + 1 → to_diagonal rule rows cols i j ≡ false
            → kept_at (set places (8 * a + b) entry) i j ≡ entry_at rows cols offsets columns i j
        each i j hj before apart = ⊎_elim here there (eq-or-lt_of_le (le_of_suc-le-suc (omega arith)))
          where
            here : 8 * i + j ≡ 8 * a + b → kept_at (set places (8 * a + b) entry) i j ≡ entry_at rows cols offsets columns i j
            here e =
                let same = same_pair i j a b (omega arith) (omega arith) e in
                rw (same.0, same.1) (get_or-set_same places (8 * a + b) entry 0 room ∙ is)

            there : 8 * i + j < 8 * a + b → kept_at (set places (8 * a + b) entry) i j ≡ entry_at rows cols offsets columns i j
            there earlier = get_or-set_other places (8 * a + b) (8 * i + j) entry 0 (λ e. absurd (omega (arith, e))) ∙ old.kept i j hj earlier apart
