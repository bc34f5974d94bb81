-- A row that is scanned upward.
-- Assumes nothing.
use mathlib.Core.Path.{◌≡◌, refl, ap, ◌∙◌}
use mathlib.Core.Logic.{◌≢◌, ◌⊎◌, inl, inr}
use mathlib.Core.List.{List, [], ◌∷◌, ◌++◌, append-nil}
use mathlib.Core.Option.{some}
use Prim.Native.Nat.{ℕ, zero, suc, ◌+◌, ◌-◌, ◌≤◌, ◌<◌, max}
use native.Mathlib.Omega.{arith}
use lib.ListN.{length, get_or, set, length-append}
use Rattle.walks.proofs.Highest.{le_or_lt}
use Rattle.fill.specs.Fill.{columns_from, levels_from}
use Rattle.fill.specs.Steps.{level_in, levels_in, over}
use Rattle.fill.proofs.SpanLaws.{columns_before}
use Rattle.fill.proofs.Lists.{columns_one, levels_one, fewer, same_count, over_more}

is_some : (w : ℕ) → w ≢ 0 → level_in w ≡ some (w - 1)
is_some zero h = absurd (h refl)
is_some (suc w) h = let z : suc w - 1 ≡ w = omega arith in rw z

module _ (row : List ℕ) (j : ℕ) where
  pub columns_skip : get_or row j 0 ≡ 0 → columns_from (levels_in row) 0 (j + 1) ≡ columns_from (levels_in row) 0 j
  columns_skip h = columns_one (levels_in row) j ∙ rw (h, append-nil)

  pub levels_skip : get_or row j 0 ≡ 0 → levels_from (levels_in row) 0 (j + 1) ≡ levels_from (levels_in row) 0 j
  levels_skip h = levels_one (levels_in row) j ∙ rw (h, append-nil)

  pub columns_hit : get_or row j 0 ≢ 0 → columns_from (levels_in row) 0 (j + 1) ≡ columns_from (levels_in row) 0 j ++ (j ∷ [])
  columns_hit h = columns_one (levels_in row) j ∙ rw (is_some (get_or row j 0) h)

  pub levels_hit : get_or row j 0 ≢ 0 → levels_from (levels_in row) 0 (j + 1) ≡ levels_from (levels_in row) 0 j ++ ((get_or row j 0 - 1) ∷ [])
  levels_hit h = levels_one (levels_in row) j ∙ rw (is_some (get_or row j 0) h)

  pub count_hit : get_or row j 0 ≢ 0 → length (columns_from (levels_in row) 0 (j + 1)) ≡ length (columns_from (levels_in row) 0 j) + 1
  count_hit h = ap length (columns_hit h) ∙ length-append (columns_from (levels_in row) 0 j) (j ∷ [])

  -- there is room for a column that is found
  pub room_left : (n m : ℕ) → get_or row j 0 ≢ 0 → j < n → length (columns_from (levels_in row) 0 n) ≤ m → length (columns_from (levels_in row) 0 j) < m
  room_left n m h b r = omega (arith, count_hit h, fewer (levels_in row) (j + 1) n (omega arith))

  pub room_here : (m : ℕ) → get_or row j 0 ≢ 0 → j < length row → length (columns_from (levels_in row) 0 (length row)) ≤ m → length (columns_from (levels_in row) 0 j) < m
  room_here m h b r = room_left (length row) m h b r

  pub write_column : (at : ℕ) (s s₀ : List ℕ) → get_or row j 0 ≢ 0 → at ≡ length (columns_from (levels_in row) 0 j) → at < length s₀ → s ≡ over (columns_from (levels_in row) 0 j) s₀
      → set s at j ≡ over (columns_from (levels_in row) 0 (j + 1)) s₀
  write_column at s s₀ h e b inv = rw (inv, e, columns_hit h) (over_more (columns_from (levels_in row) 0 j) s₀ j (omega arith))

  pub write_level : (at : ℕ) (s s₀ : List ℕ) → get_or row j 0 ≢ 0 → at ≡ length (columns_from (levels_in row) 0 j) → at < length s₀ → s ≡ over (levels_from (levels_in row) 0 j) s₀
      → set s at (get_or row j 0 - 1) ≡ over (levels_from (levels_in row) 0 (j + 1)) s₀
  write_level at s s₀ h e b inv =
      let q : at ≡ length (levels_from (levels_in row) 0 j) = e ∙ same_count (levels_in row) 0 j in
      rw (inv, q, levels_hit h) (over_more (levels_from (levels_in row) 0 j) s₀ (get_or row j 0 - 1) (omega (arith, q)))

-- a count that began at the span's low end
pub count_to_lem : (row : List ℕ) (low j to found : ℕ) → ((x : ℕ) → x < low → get_or row x 0 ≡ 0) → low ≤ j → j ≤ max low to → to ≤ j
    → found ≡ length (columns_from (levels_in row) 0 j) → found ≡ length (columns_from (levels_in row) 0 to)
count_to_lem row low j to found before a b c e = go (le_or_lt low to)
  where
    go : (low ≤ to) ⊎ (to < low) → found ≡ length (columns_from (levels_in row) 0 to)
    go (inl h) = let q : j ≡ to = omega arith in rw q at e
    go (inr h) =
        let q : j ≡ low = omega arith in
        e ∙ rw (q, columns_before row low low before (omega arith), columns_before row low to before (omega arith))
