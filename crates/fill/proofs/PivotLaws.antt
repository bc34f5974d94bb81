-- What the functions above the loops need of a pivot and of A's row.
-- Assumes nothing.
use mathlib.Core.Path.{◌≡◌, refl, ◌∙◌}
use mathlib.Core.Logic.{◌≢◌}
use mathlib.Core.List.{List}
use mathlib.Core.Bool.{Bool, true, false, cond}
use Prim.Native.Nat.{ℕ, ◌+◌, ◌-◌, ◌≤◌, ◌<◌, max}
use native.Mathlib.Omega.{arith}
use lib.Dec.{ltb, eqb}
use lib.ListN.{length, get_or, take, drop, replicate, length-take, length-drop}
use borrow.Author.Tests.{eq-eqb, ne_eqb, lt-ltb, le-ltb, eqb-true, eqb-false, ltb-true, ltb-false}
use Rattle.patterns.specs.Pattern.{rows_of, row_of, own_absent, valid_entries, valid_pattern}
use Rattle.patterns.proofs.Use.{pattern_entries, own_absent_lem, row_ends, valid_offsets_lem, row_column_below}
use Rattle.walks.specs.Levels.{Pattern, level_of}
use Rattle.fill.specs.Fill.{stored, columns_from}
use Rattle.fill.specs.Steps.{Levelled, spread_all, loaded, Upper, Written, Within, Spans, end_of, pivot_step, pivot_high, PivotFits, Started}
use Rattle.fill.proofs.Lists.{columns_below}
use Rattle.fill.proofs.ColumnLaws.{column_level, columns_last}
use Rattle.fill.proofs.SpanLaws.{within_loaded, within_wider, within_spread}
use Rattle.fill.proofs.RowLaws.{skip_none, skip_high, spread_levelled, pivot_small, load_levelled}

pub parts_same : (s e : ℕ) (cs ls : List ℕ) → e ≤ length cs → e ≤ length ls → length (take (e - s) (drop s cs)) ≡ length (take (e - s) (drop s ls))
parts_same s e cs ls h h' = simp (length-take, length-drop) (omega arith)

module _ (k i p s e : ℕ) (cs ls row row' : List ℕ) where
  pub pivot_none : get_or row p 0 ≡ 0 → row' ≡ row → row' ≡ pivot_step k i p s e cs ls row
  unfolding pivot_step
  pivot_none h q = q ∙ rw (eq-eqb _ _ h)

  pub pivot_high_lem : get_or row p 0 ≢ 0 → k ≤ get_or row p 0 - 1 → row' ≡ row → row' ≡ pivot_step k i p s e cs ls row
  unfolding pivot_step
  pivot_high_lem h g q = q ∙ rw (ne_eqb _ _ h, le-ltb _ _ g)

  pub pivot_spread : get_or row p 0 ≢ 0 → get_or row p 0 - 1 < k → row' ≡ spread_all k i (get_or row p 0 - 1) (take (e - s) (drop s cs)) (take (e - s) (drop s ls)) row
      → row' ≡ pivot_step k i p s e cs ls row
  unfolding pivot_step
  pivot_spread h g q = q ∙ rw (ne_eqb _ _ h, lt-ltb _ _ g)

module _ (A : Pattern) (k n i p s e : ℕ) (o cs ss ls row : List ℕ) (L : Levelled A k n p i row) (W : Written A k n i o cs ss ls) (hp : p < i) (hi : i < n)
    (es : s ≡ get_or ss p 0) (ee : e ≡ get_or o (p + 1) 0) where
  up : Upper A k n p s e cs ls
  up = rw (es, ee) (W.upper p hp)

  pub pivot_fits : n ≤ 65536 → PivotFits p row s e cs ls
  pivot_fits h = record {
    in_row = omega (arith, L.long);
    ordered = up.ordered;
    in_columns = up.in_columns;
    in_levels = up.in_levels;
    below = λ x b. small x b;
    small = omega (arith, pivot_small A k n p i row L hp hi);
  }
    where
      small : (x : ℕ) → x < length (take (e - s) (drop s cs)) → get_or (take (e - s) (drop s cs)) x 0 < length row
      small x b =
          let q = columns_below (level_of A k p) (p + 1) (n - (p + 1)) x (rw up.columns at b) in
          rw up.columns (omega (arith, q, L.long))

  pub pivot_levelled : (row' : List ℕ) → row' ≡ pivot_step k i p s e cs ls row → Levelled A k n (p + 1) i row'
  unfolding pivot_step
  pivot_levelled row' q = go (eqb (get_or row p 0) 0) refl (ltb (get_or row p 0 - 1) k) refl
    where
      go : (x : Bool) → eqb (get_or row p 0) 0 ≡ x → (y : Bool) → ltb (get_or row p 0 - 1) k ≡ y → Levelled A k n (p + 1) i row'
      go true u y v = let z : row' ≡ row = q ∙ rw u in rw z (skip_none A k n p i row L hp hi (eqb-true _ _ u))
      go false u false v =
          let z : row' ≡ row = q ∙ rw (u, v) in
          let w : get_or row p 0 ≢ 0 = eqb-false _ _ u in
          rw z (skip_high A k n p i row L hp hi (get_or row p 0) refl (omega (arith, w)) (ltb-false _ _ v))
      go false u true v =
          let z : row' ≡ spread_all k i (get_or row p 0 - 1) (take (e - s) (drop s cs)) (take (e - s) (drop s ls)) row = q ∙ rw (u, v) in
          let w : get_or row p 0 ≢ 0 = eqb-false _ _ u in
          spread_levelled A k n p i row L hp hi (get_or row p 0) (take (e - s) (drop s cs)) (take (e - s) (drop s ls)) row' refl (omega (arith, w)) (ltb-true _ _ v) up.columns up.levels z

  -- its columns lie above the pivot, and the last is the highest
  upper_spans : (low high : ℕ) → low ≤ p → Spans low (end_of (take (e - s) (drop s cs)) high) (take (e - s) (drop s cs)) (length (take (e - s) (drop s cs)))
  unfolding end_of
  upper_spans low high h x b =
      let f = level_of A k p in
      let U = columns_from f (p + 1) (n - (p + 1)) in
      let b' : x < length U = rw up.columns at b in
      rw (up.columns, ne_eqb (length U) 0 (λ z. omega (arith, z)))
      (omega (arith, (column_level f (p + 1) (n - (p + 1)) x b').0), omega (arith, columns_last f (p + 1) (n - (p + 1)) x b'))

  end_few : (high : ℕ) → high ≤ n → end_of (take (e - s) (drop s cs)) high ≤ n
  unfolding end_of
  end_few high h = rw up.columns (go (eqb (length U) 0) refl)
    where
      U : List ℕ
      U = columns_from (level_of A k p) (p + 1) (n - (p + 1))

      go : (b : Bool) → eqb (length U) 0 ≡ b → cond b high (max high (get_or U (length U - 1) 0 + 1)) ≤ n
      go true q = h
      go false q =
          let z : length U ≢ 0 = eqb-false _ _ q in
          omega (arith, columns_below (level_of A k p) (p + 1) (n - (p + 1)) (length U - 1) (omega (arith, z)))

  end_more : (part : List ℕ) (high : ℕ) → high ≤ end_of part high
  unfolding end_of
  end_more part high = go (eqb (length part) 0)
    where
      go : (b : Bool) → high ≤ cond b high (max high (get_or part (length part - 1) 0 + 1))
      go true = omega arith
      go false = omega arith

  -- the span after the pivot
  pub pivot_within : (low high high' : ℕ) (row' : List ℕ) → low ≤ p → low ≤ high → high ≤ n → Within low high row → row' ≡ pivot_step k i p s e cs ls row
      → high' ≡ pivot_high k p s e cs row high → Within low high' row' × (low ≤ high') × (high' ≤ n)
  unfolding pivot_step pivot_high
  pivot_within low high high' row' a o m S er eh = rw (er, eh) (go (eqb (get_or row p 0) 0) (ltb (get_or row p 0 - 1) k))
    where
      part : List ℕ
      part = take (e - s) (drop s cs)

      go : (x y : Bool)
          → Within low (cond x high (cond y (end_of part high) high)) (cond x row (cond y (spread_all k i (get_or row p 0 - 1) part (take (e - s) (drop s ls)) row) row))
          × (low ≤ cond x high (cond y (end_of part high) high)) × (cond x high (cond y (end_of part high) high) ≤ n)
      go true y = (S, o, m)
      go false true = (
        within_spread low (end_of part high) k i (get_or row p 0 - 1) part (take (e - s) (drop s ls)) row
            (within_wider low high low (end_of part high) row S (omega arith) (end_more part high)) (upper_spans low high a),
        omega (arith, end_more part high),
        end_few high m,
      )
      go false false = (S, o, m)

-- row i of A, at the places a .. b of its columns
module _ (i a b : ℕ) (ao ac : List ℕ) (ok : valid_pattern ao ac ≡ true) (hi : i < rows_of ao) (ea : a ≡ get_or ao i 0) (eb : b ≡ get_or ao (i + 1) 0) where
  entries : valid_entries ao ac ≡ true
  entries = pattern_entries ao ac ok

  pub part_ends : (a ≤ b) × (b ≤ length ac)
  part_ends = rw (ea, eb) (row_ends ao ac (valid_offsets_lem ao ac entries) i hi)

  part_is : take (b - a) (drop a ac) ≡ row_of ao ac i
  unfolding row_of
  part_is = rw (ea, eb)

  pub part_below : (x : ℕ) → x < length (take (b - a) (drop a ac)) → get_or (take (b - a) (drop a ac)) x 0 < rows_of ao
  part_below = rw part_is (λ x h. row_column_below ao ac entries i x hi h)

  pub row_levelled : (k : ℕ) (row row' : List ℕ) → row ≡ replicate (rows_of ao) 0 → row' ≡ loaded (take (b - a) (drop a ac)) row
      → Levelled (stored ao ac) k (rows_of ao) 0 i row'
  unfolding own_absent
  row_levelled k row row' er e = load_levelled k (rows_of ao) i ao ac (take (b - a) (drop a ac)) row row' (own_absent_lem ao ac ok i hi) part_is er e

  pub row_started : (low high n : ℕ) (row row' : List ℕ) → rows_of ao ≡ n → row ≡ replicate n 0 → row' ≡ loaded (take (b - a) (drop a ac)) row
      → Spans low high (take (b - a) (drop a ac)) (length (take (b - a) (drop a ac))) → low ≤ high → high ≤ n → Started (stored ao ac) n i low high row'
  row_started low high n row row' en er e S o m = record {
    levelled = λ k. rw en at (row_levelled k row row' (rw en er) e);
    within = rw e (within_loaded low high n (take (b - a) (drop a ac)) row er S);
    ordered = o;
    in_row = m;
  }

pub levelled_as : {A : Pattern} {k m n p i : ℕ} {row : List ℕ} → m ≡ n → Levelled A k n p i row → Levelled A k m p i row
levelled_as e L = rw e L
