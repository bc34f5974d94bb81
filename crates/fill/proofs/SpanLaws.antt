-- The marks of a row lie within a span: what writes keep it, and what need not be scanned outside it.
-- Assumes nothing.
use mathlib.Core.Path.{◌≡◌, refl, sym, ap, ◌∙◌}
use mathlib.Core.Logic.{◌⊎◌, inl, inr}
use mathlib.Core.List.{List, [], ◌∷◌, ◌++◌, append-nil}
use mathlib.Core.Bool.{Bool, true, false, not, ◌&&◌, cond}
use mathlib.Core.Option.{Option, none}
use Prim.Native.Nat.{ℕ, zero, suc, ◌+◌, ◌-◌, ◌≤◌, ◌<◌, min, max}
use native.Mathlib.Nat.{not-suc-le-zero, le_of_suc-le-suc, eq-or-lt_of_le}
use native.Mathlib.Numerals.{add-one}
use native.Mathlib.Omega.{arith}
use lib.Dec.{ltb, eqb}
use lib.ListN.{length, get_or, set, take, drop, replicate}
use lib.Seq.{get_or-set_other}
use Rattle.base.proofs.Iterate.{iterate_keeps}
use Rattle.walks.specs.Levels.{Pattern}
use Rattle.walks.proofs.Highest.{le_or_lt}
use Rattle.fill.specs.Fill.{columns_from, levels_from}
use Rattle.fill.specs.Steps.{level_in, levels_in, Levelled, least, spread_one, spread_all, load_one, loaded, Within, Spans}
use Rattle.fill.proofs.Lists.{columns_add, levels_add}
use Rattle.fill.proofs.RowLaws.{skip_none}

get_d_zeros : (n j : ℕ) → ◌≡◌ {A = ℕ} (get_or (replicate n 0) j 0) 0
get_d_zeros zero j = refl
get_d_zeros (suc n) zero = refl
get_d_zeros (suc n) (suc j) = get_d_zeros n j

pub within_zeros : (n low high : ℕ) (row : List ℕ) → row ≡ replicate n 0 → Within low high row
within_zeros n low high row e = record { before = λ j _. rw e (get_d_zeros n j); after = λ j _. rw e (get_d_zeros n j) }

pub within_set : (low high c x : ℕ) (row : List ℕ) → Within low high row → low ≤ c → c < high → Within low high (set row c x)
within_set low high c x row W a b = record {
  before = λ j h. get_or-set_other row c j x 0 (λ e. omega (arith, e)) ∙ W.before j h;
  after = λ j h. get_or-set_other row c j x 0 (λ e. omega (arith, e)) ∙ W.after j h;
}

pub within_wider : (low high low' high' : ℕ) (row : List ℕ) → Within low high row → low' ≤ low → high ≤ high' → Within low' high' row
within_wider low high low' high' row W a b = record { before = λ j h. W.before j (omega arith); after = λ j h. W.after j (omega arith) }

-- A's columns
pub within_loaded : (low high n : ℕ) (cs row : List ℕ) → row ≡ replicate n 0 → Spans low high cs (length cs) → Within low high (loaded cs row)
unfolding loaded load_one
within_loaded low high n cs row e S =
    iterate_keeps (load_one cs) (λ _ t. Within low high t) 0 row (length cs) (omega arith) (within_zeros n low high row e)
    (λ x t _ b W. within_set low high (get_or cs x 0) 1 t W (S x b).0 (S x b).1)

-- the pivot's columns
within_one : (low high k i a c l : ℕ) (row : List ℕ) → Within low high row → low ≤ c → c < high → Within low high (spread_one k i a c l row)
unfolding spread_one
within_one low high k i a c l row W lc ch = go (ltb l k && not (eqb c i))
  where
    go : (b : Bool) → Within low high (cond b (set row c (least (get_or row c 0) (max a l + 2))) row)
    go true = within_set low high c _ row W lc ch
    go false = W

pub within_spread : (low high k i a : ℕ) (cs ls row : List ℕ) → Within low high row → Spans low high cs (length cs) → Within low high (spread_all k i a cs ls row)
unfolding spread_all
within_spread low high k i a [] ls row W S = W
within_spread low high k i a (c ∷ cs) [] row W S = W
within_spread low high k i a (c ∷ cs) (l ∷ ls) row W S =
    within_spread low high k i a cs ls (spread_one k i a c l row) (within_one low high k i a c l row W (S 0 (omega arith)).0 (S 0 (omega arith)).1)
    (λ x h. S (suc x) (omega arith))

-- one column more
pub spans_more : (low high : ℕ) (cs : List ℕ) (e : ℕ) → Spans low high cs e → Spans (min low (get_or cs e 0)) (max high (get_or cs e 0 + 1)) cs (e + 1)
spans_more low high cs e S x h = go (eq-or-lt_of_le (le_of_suc-le-suc (rw add-one at h)))
  where
    go : (x ≡ e) ⊎ (x < e) → (min low (get_or cs e 0) ≤ get_or cs x 0) × (get_or cs x 0 < max high (get_or cs e 0 + 1))
    go (inl q) = rw q (omega arith, omega arith)
    go (inr q) = (omega (arith, S x q), omega (arith, S x q))

-- nothing stands outside the span
none_columns : (f : ℕ → Option ℕ) (c d : ℕ) → ((j : ℕ) → c ≤ j → j < c + d → f j ≡ none) → columns_from f c d ≡ []
unfolding columns_from
none_columns f c zero h = refl
none_columns f c (suc d) h = rw (h c (omega arith) (omega arith)) (none_columns f (suc c) d (λ j a b. h j (omega arith) (omega arith)))

none_levels : (f : ℕ → Option ℕ) (c d : ℕ) → ((j : ℕ) → c ≤ j → j < c + d → f j ≡ none) → levels_from f c d ≡ []
unfolding levels_from
none_levels f c zero h = refl
none_levels f c (suc d) h = rw (h c (omega arith) (omega arith)) (none_levels f (suc c) d (λ j a b. h j (omega arith) (omega arith)))

module _ (row : List ℕ) where
  pub columns_before : (low m : ℕ) → ((j : ℕ) → j < low → get_or row j 0 ≡ 0) → m ≤ low → columns_from (levels_in row) 0 m ≡ []
  columns_before low m before h = none_columns (levels_in row) 0 m (λ j _ b. ap level_in (before j (omega arith)))

  pub levels_before : (low m : ℕ) → ((j : ℕ) → j < low → get_or row j 0 ≡ 0) → m ≤ low → levels_from (levels_in row) 0 m ≡ []
  levels_before low m before h = none_levels (levels_in row) 0 m (λ j _ b. ap level_in (before j (omega arith)))

  pub columns_after_lem : (high m n : ℕ) → ((j : ℕ) → high ≤ j → get_or row j 0 ≡ 0) → high ≤ m → m ≤ n
      → columns_from (levels_in row) 0 m ≡ columns_from (levels_in row) 0 n
  columns_after_lem high m n after h b =
      let e : m + (n - m) ≡ n = omega arith in
      let z : 0 + m ≡ m = omega arith in
      let q : columns_from (levels_in row) m (n - m) ≡ [] = none_columns (levels_in row) m (n - m) (λ j a _. ap level_in (after j (omega arith))) in
      let r : columns_from (levels_in row) 0 (m + (n - m)) ≡ columns_from (levels_in row) 0 m = columns_add (levels_in row) 0 m (n - m) ∙ rw (z, q, append-nil) in
      sym (rw e at r)

  pub levels_after_lem : (high m n : ℕ) → ((j : ℕ) → high ≤ j → get_or row j 0 ≡ 0) → high ≤ m → m ≤ n
      → levels_from (levels_in row) 0 m ≡ levels_from (levels_in row) 0 n
  levels_after_lem high m n after h b =
      let e : m + (n - m) ≡ n = omega arith in
      let z : 0 + m ≡ m = omega arith in
      let q : levels_from (levels_in row) m (n - m) ≡ [] = none_levels (levels_in row) m (n - m) (λ j a _. ap level_in (after j (omega arith))) in
      let r : levels_from (levels_in row) 0 (m + (n - m)) ≡ levels_from (levels_in row) 0 m = levels_add (levels_in row) 0 m (n - m) ∙ rw (z, q, append-nil) in
      sym (rw e at r)

-- pivots below the span give nothing
pub skip_below : (A : Pattern) (k n i low high : ℕ) (row : List ℕ) → Levelled A k n 0 i row → Within low high row → i < n → (m : ℕ) → m ≤ low → m ≤ i → Levelled A k n m i row
skip_below A k n i low high row L W hi zero a b = L
skip_below A k n i low high row L W hi (suc m) a b =
    rw (← add-one) (skip_none A k n m i row (skip_below A k n i low high row L W hi m (omega arith) (omega arith)) b hi (W.before m a))

-- nor do pivots above it
skip_above : (A : Pattern) (k n i low high : ℕ) (row : List ℕ) → Within low high row → i < n → (p d : ℕ) → Levelled A k n p i row → high ≤ p → p + d ≤ i → Levelled A k n (p + d) i row
skip_above A k n i low high row W hi p zero L a b = let e : p + 0 ≡ p = omega arith in rw e L
skip_above A k n i low high row W hi p (suc d) L a b =
    let e : p + suc d ≡ p + d + 1 = omega arith in
    rw e (skip_none A k n (p + d) i row (skip_above A k n i low high row W hi p d L a (omega arith)) (omega arith) hi (W.after (p + d) (omega arith)))

-- so that after the last pivot within the span all have given what they give
pub skip_rest : (A : Pattern) (k n i low high p : ℕ) (row : List ℕ) → Levelled A k n p i row → Within low high row → i < n → p ≤ i → min high i ≤ p → Levelled A k n i i row
skip_rest A k n i low high p row L W hi a b = go (le_or_lt i p)
  where
    go : (i ≤ p) ⊎ (p < i) → Levelled A k n i i row
    go (inl q) = let e : p ≡ i = omega arith in rw e at L
    go (inr q) = let e : p + (i - p) ≡ i = omega arith in rw e at (skip_above A k n i low high row W hi p (i - p) L (omega arith) (omega arith))

-- a span of zeros put over the span
pub zeros_over : (low high : ℕ) (row : List ℕ) → Within low high row → low ≤ high → high ≤ length row
    → take low row ++ (replicate (high - low) 0 ++ drop (high - low) (drop low row)) ≡ replicate (length row) 0
zeros_over zero zero row W a b = all_zero row (λ j. W.after j (omega arith))
  where
    all_zero : (t : List ℕ) → ((j : ℕ) → get_or t j 0 ≡ 0) → t ≡ replicate (length t) 0
    all_zero [] h = refl
    all_zero (x ∷ t) h = rw (h 0) (ap (λ (u : List ℕ). 0 ∷ u) (all_zero t (λ j. h (suc j))))
zeros_over zero (suc high) [] W a b = absurd (not-suc-le-zero b)
zeros_over zero (suc high) (x ∷ row) W a b =
    let e : suc high - 0 ≡ suc (high - 0) = omega arith in
    rw e (ap (λ (u : List ℕ). 0 ∷ u) (zeros_over zero high row (record { before = λ j h. W.before (suc j) (omega arith); after = λ j h. W.after (suc j) (omega arith) }) (omega arith) (le_of_suc-le-suc b)))
zeros_over (suc low) zero row W a b = absurd (not-suc-le-zero a)
zeros_over (suc low) (suc high) [] W a b = absurd (not-suc-le-zero b)
zeros_over (suc low) (suc high) (x ∷ row) W a b =
    let e : suc high - suc low ≡ high - low = omega arith in
    rw (e, W.before 0 (omega arith))
    (ap (λ (u : List ℕ). 0 ∷ u) (zeros_over low high row (record { before = λ j h. W.before (suc j) (omega arith); after = λ j h. W.after (suc j) (omega arith) }) (le_of_suc-le-suc a) (le_of_suc-le-suc b)))
