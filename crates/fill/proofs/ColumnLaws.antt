-- The columns that have a level are listed rising, each once.
-- Assumes nothing.
use mathlib.Core.Path.{◌≡◌, refl, sym, ◌∙◌}
use mathlib.Core.Logic.{◌⊎◌, inl, inr}
use mathlib.Core.List.{List, ◌++◌}
use mathlib.Core.Option.{Option, none, some}
use Prim.Native.Nat.{ℕ, zero, suc, ◌+◌, ◌-◌, ◌≤◌, ◌<◌}
use native.Mathlib.Nat.{not-suc-le-zero, le_of_suc-le-suc, add-suc, add-zero}
use native.Mathlib.Omega.{arith}
use lib.ListN.{length, get_or}
use Rattle.walks.proofs.Highest.{le_or_lt}
use Rattle.fill.specs.Fill.{column_at, level_at, columns_from, levels_from}

-- j is one of the list's numbers
abbrev pub In : ℕ → List ℕ → Type 0
In j l = (e : ℕ) × (e < length l) × (get_or l e 0 ≡ j)

module _ (f : ℕ → Option ℕ) where
  -- place e of the list: its column lies in the range, and has the level at place e
  pub column_level : (c d e : ℕ) → e < length (columns_from f c d)
      → (c ≤ get_or (columns_from f c d) e 0) × (f (get_or (columns_from f c d) e 0) ≡ some (get_or (levels_from f c d) e 0))
  unfolding columns_from levels_from
  column_level c zero e h = absurd (not-suc-le-zero h)
  column_level c (suc d) e h = go (f c) refl e h (λ x l. column_level (suc c) d x l)
    where
      go : (o : Option ℕ) → f c ≡ o → (e : ℕ) → e < length (column_at o c ++ columns_from f (suc c) d)
          → ((x : ℕ) → x < length (columns_from f (suc c) d) → (suc c ≤ get_or (columns_from f (suc c) d) x 0) × (f (get_or (columns_from f (suc c) d) x 0) ≡ some (get_or (levels_from f (suc c) d) x 0)))
          → (c ≤ get_or (column_at o c ++ columns_from f (suc c) d) e 0) × (f (get_or (column_at o c ++ columns_from f (suc c) d) e 0) ≡ some (get_or (level_at o ++ levels_from f (suc c) d) e 0))
      go none q e h r = (omega (arith, (r e h).0), (r e h).1)
      go (some l) q zero h r = (omega arith, q)
      go (some l) q (suc e) h r = let x = r e (le_of_suc-le-suc h) in (omega (arith, x.0), x.1)

  -- each column that has a level stands in it
  pub column_stands : (c d j l : ℕ) → c ≤ j → j < c + d → f j ≡ some l → In j (columns_from f c d)
  unfolding columns_from
  column_stands c zero j l a b h = absurd (omega arith)
  column_stands c (suc d) j l a b h = go (f c) refl (le_or_lt j c) (λ q. column_stands (suc c) d j l q (omega arith) h)
    where
      go : (o : Option ℕ) → f c ≡ o → (j ≤ c) ⊎ (c < j) → (suc c ≤ j → In j (columns_from f (suc c) d)) → In j (column_at o c ++ columns_from f (suc c) d)
      go none q (inl x) r =
          let e : j ≡ c = omega arith in
          let z : some l ≡ none = sym h ∙ rw e q in
          let y : ◌≡◌ {A = ℕ} 0 1 = cc in
          absurd (omega arith)
      go (some m) q (inl x) r = let e : j ≡ c = omega arith in (0, omega arith, sym e)
      go none q (inr x) r = r x
      go (some m) q (inr x) r = let y = r x in (suc y.0, omega (arith, y.1), y.2)

  -- the columns rise strictly
  pub columns_rise : (c d e : ℕ) → suc e < length (columns_from f c d) → get_or (columns_from f c d) e 0 < get_or (columns_from f c d) (suc e) 0
  unfolding columns_from
  columns_rise c zero e h = absurd (not-suc-le-zero h)
  columns_rise c (suc d) e h = go (f c) e h (λ x l. columns_rise (suc c) d x l) (λ x l. (column_level (suc c) d x l).0)
    where
      go : (o : Option ℕ) (e : ℕ) → suc e < length (column_at o c ++ columns_from f (suc c) d)
          → ((x : ℕ) → suc x < length (columns_from f (suc c) d) → get_or (columns_from f (suc c) d) x 0 < get_or (columns_from f (suc c) d) (suc x) 0)
          → ((x : ℕ) → x < length (columns_from f (suc c) d) → suc c ≤ get_or (columns_from f (suc c) d) x 0)
          → get_or (column_at o c ++ columns_from f (suc c) d) e 0 < get_or (column_at o c ++ columns_from f (suc c) d) (suc e) 0
      go none e h r s = r e h
      go (some l) zero h r s = s 0 (le_of_suc-le-suc h)
      go (some l) (suc e) h r s = r e (le_of_suc-le-suc h)

  -- and so none exceeds the last
  pub columns_climb : (c d x y : ℕ) → x + y < length (columns_from f c d) → get_or (columns_from f c d) x 0 ≤ get_or (columns_from f c d) (x + y) 0
  columns_climb c d x zero h = rw add-zero (omega arith)
  columns_climb c d x (suc y) h =
      let b : suc (x + y) < length (columns_from f c d) = omega arith in
      rw add-suc (omega (arith, columns_climb c d x y (omega arith), columns_rise c d (x + y) b))

  pub columns_last : (c d x : ℕ) → x < length (columns_from f c d) → get_or (columns_from f c d) x 0 ≤ get_or (columns_from f c d) (length (columns_from f c d) - 1) 0
  columns_last c d x h =
      let e : x + (length (columns_from f c d) - 1 - x) ≡ length (columns_from f c d) - 1 = omega arith in
      rw e at (columns_climb c d x (length (columns_from f c d) - 1 - x) (omega arith))
