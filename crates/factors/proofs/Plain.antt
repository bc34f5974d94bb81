-- A factor pattern without entries: decompose inverts each pivot up to the first singular one and does nothing else, and the solve multiplies each row by its pivot's block.
-- Assumes nothing.
use mathlib.Core.Path.{◌≡◌, refl, ap, ◌∙◌}
use mathlib.Core.Logic.{⊎_elim}
use mathlib.Core.List.{List, []}
use mathlib.Core.Bool.{Bool, true, false}
use mathlib.Core.Option.{none, some}
use Prim.Native.Nat.{ℕ, zero, suc, ◌+◌, ◌-◌, ◌*◌, ◌≤◌, ◌<◌}
use native.Mathlib.Nat.{not-suc-le-zero, le_of_suc-le-suc, eq-or-lt_of_le}
use native.Mathlib.Numerals.{add-one}
use native.Mathlib.Omega.{arith}
use lib.Dec.{ltb}
use lib.ListN.{length, get_or, replicate}
use lib.Ieee.{Float, Format, nan, mul}
use borrow.Author.Tests.{ltb-true, ltb-false}
use Rattle.base.specs.Iterate.{iterate}
use Rattle.base.proofs.Iterate.{iterate_none, iterate_keeps}
use Rattle.base.proofs.Sizes.{part_fits}
use Rattle.blocks.specs.Block.{element, sum_to, applied}
use Rattle.blocks.specs.Inverse.{inverse, singular}
use Rattle.blocks.specs.Lent.{values_at, block_at, vector_at, put_at}
use Rattle.blocks.proofs.ListedLaws.{length_listed}
use Rattle.blocks.proofs.LentLaws.{length_put, put_same, put_before, put_after}
use Rattle.patterns.specs.Pattern.{rows_of}
use Rattle.factors.specs.Factor.{FactorPattern, FactorValues, Decomposed, take_pivot, reduce_row, invert_pivot, multiply_entry, finish_row, decompose_from, decompose}
use Rattle.factors.specs.Solve.{less_entry, less_entries, forward_row, backward_row, solve}
use Rattle.factors.proofs.RowLaws.{stays}
use Rattle.factors.proofs.Stopped.{whole_row, from_on, from_stop}

-- no row has an entry
pub record NoEntries (t : FactorPattern) : Type 0 where
  pub offsets : (i : ℕ) → get_or t.offsets i 0 ≡ 0
  pub splits : (i : ℕ) → get_or t.splits i 0 ≡ 0

-- as in the pattern of m rows whose offsets and splits are 0, without columns
pub plain_pattern : (m : ℕ) → NoEntries (record { offsets = replicate (suc m) 0; columns = []; splits = replicate m 0 })
plain_pattern m = record { offsets = zeros (suc m); splits = zeros m }
  where
    zeros : (m i : ℕ) → ◌≡◌ {A = ℕ} (get_or (replicate m 0) i 0) 0
    zeros zero i = refl
    zeros (suc m) zero = refl
    zeros (suc m) (suc i) = zeros m i

-- Of `count` parts of B values each, the first m were replaced by what `made` makes of them, and the others are as they were.
record Made (B count : ℕ) (made : ℕ → List Float → List Float) (old : List Float) (m : ℕ) (new : List Float) : Type 0 where
  long : length new ≡ length old
  done : (w : ℕ) → w < m → values_at B new (B * w) ≡ made w (values_at B old (B * w))
  rest : (w : ℕ) → m ≤ w → w < count → values_at B new (B * w) ≡ values_at B old (B * w)

module _ (B count : ℕ) (made : ℕ → List Float → List Float) (old : List Float) (fits : B * count ≤ length old) where
  made_none : Made B count made old 0 old
  made_none = record { long = refl; done = λ w h. absurd (not-suc-le-zero h); rest = λ w h l. refl }

  made_next : (m : ℕ) (u : List Float) → m < count → length (made m (values_at B u (B * m))) ≡ B → Made B count made old m u
      → Made B count made old (m + 1) (put_at (B * m) (made m (values_at B u (B * m))) u)
  made_next m u below wide so =
      let p = B * m in
      let new = made m (values_at B u p) in
      let room : p + length new ≤ length u = omega (arith, wide, so.long, part_fits B m count (length old) below fits) in
      let written : values_at B (put_at p new u) p ≡ new = rw wide at (put_same p new u room) in
      record {
        long = length_put p new u room ∙ so.long;
        done =
            λ w h. ⊎_elim (λ e. rw e (written ∙ ap (made m) (so.rest m (omega arith) below)))
            (λ less. put_before p new u room (B * w) B (part_fits B w m p less (omega arith)) ∙ so.done w less)
            (eq-or-lt_of_le (le_of_suc-le-suc (rw add-one at h)));
        rest =
            λ w h l. put_after p new u room (B * w) B (omega (arith, wide, part_fits B m w (B * w) (omega (arith, h)) (omega arith)))
            (omega (arith, so.long, part_fits B w count (length old) l fits)) ∙ so.rest w (omega (arith, h)) l;
      }

-- an inverse has as many values as a block
inverse_long : (f : Format) (n : ℕ) (a : List Float) → n ≤ 3 → length (inverse f n a) ≡ n * n
inverse_long f zero a few = omega arith
inverse_long f (suc zero) a few = omega arith
inverse_long f (suc (suc zero)) a few = omega arith
inverse_long f (suc (suc (suc zero))) a few = omega arith
inverse_long f (suc (suc (suc (suc n)))) a few = absurd (omega arith)

module _ (f : Format) (n : ℕ) (t : FactorPattern) (plain : NoEntries t) where
  -- nothing is taken from a row, and only its pivot is inverted
  plain_reduced : (i : ℕ) (s : FactorValues) → reduce_row f n t i s ≡ s
  unfolding reduce_row
  plain_reduced i s = iterate_none (take_pivot f n t i) (get_or t.offsets i 0) (get_or t.splits i 0) s (omega (arith, plain.splits i))

  plain_whole : (i : ℕ) (s : FactorValues) → whole_row f n t i s ≡ invert_pivot f n i s
  unfolding finish_row
  plain_whole i s =
      rw (plain_reduced i s)
      (iterate_none (multiply_entry f n i) (get_or t.splits i 0) (get_or t.offsets (i + 1) 0) (invert_pivot f n i s) (omega (arith, plain.offsets (i + 1))))

  module _ (s : FactorValues) (few : n ≤ 3) (long : length s.diagonal ≡ n * n * rows_of t.offsets) where
    -- The first m pivots are inverted, and all else is as it was.
    record Inverted (m : ℕ) (u : FactorValues) : Type 0 where
      diagonal : Made (n * n) (rows_of t.offsets) (λ i a. inverse f n a) s.diagonal m u.diagonal
      values : u.values ≡ s.values

    inverted_next : (m : ℕ) (u : FactorValues) → m < rows_of t.offsets → Inverted m u → Inverted (suc m) (whole_row f n t m u)
    unfolding invert_pivot
    inverted_next m u below so =
        rw (plain_whole m u) (record {
          diagonal =
              rw (add-one m) at
              (made_next (n * n) (rows_of t.offsets) (λ i a. inverse f n a) s.diagonal (omega (arith, long)) m u.diagonal below
              (inverse_long f n (block_at n u.diagonal m) few) so.diagonal);
          values = so.values;
        })

    -- the pivot that row m finds is the given one
    pivot_is : (m : ℕ) (u : FactorValues) → m < rows_of t.offsets → Inverted m u
        → singular f n (block_at n (reduce_row f n t m u).diagonal m) ≡ singular f n (block_at n s.diagonal m)
    pivot_is m u below so = rw (plain_reduced m u) (ap (singular f n) (so.diagonal.rest m (omega arith) below))

    -- A decomposition is past the rows before row m, and e rows are left.
    record Past (m e : ℕ) (run : Decomposed) : Type 0 where
      state : FactorValues
      is : run ≡ decompose_from f n t m e state
      inverted : Inverted m state

    -- so it comes to be where none of their pivots is singular
    module _ (m : ℕ) (within : m ≤ rows_of t.offsets) (regular : (i : ℕ) → i < m → singular f n (block_at n s.diagonal i) ≡ false) (e : ℕ) where
      on_from : (d a : ℕ) (u : FactorValues) → d + a ≡ m → Inverted a u → Past m e (decompose_from f n t a (d + e) u)
      on_from zero a u all so =
          let same : a ≡ m = omega arith in
          let none_more : 0 + e ≡ e = omega arith in
          record { state = u; is = rw (none_more, same); inverted = rw same at so }
      on_from (suc d) a u all so =
          let below : a < m = omega arith in
          let more : suc d + e ≡ suc (d + e) = omega arith in
          let rest = on_from d (suc a) (whole_row f n t a u) (omega arith) (inverted_next a u (omega arith) so) in
          record { state = rest.state; is = rw more (from_on f n t a (d + e) u (pivot_is a u (omega arith) so ∙ regular a below) ∙ rest.is); inverted = rest.inverted }

      on : Past m e (decompose_from f n t 0 (m + e) s)
      on =
          on_from m 0 s (omega arith)
          (record { diagonal = made_none (n * n) (rows_of t.offsets) (λ i a. inverse f n a) s.diagonal (omega (arith, long)); values = refl })

    -- Where no pivot is singular.
    module _ (regular : (i : ℕ) → i < rows_of t.offsets → singular f n (block_at n s.diagonal i) ≡ false) where
      all_inverted : ((decompose f n t s).stopped ≡ none) × Inverted (rows_of t.offsets) (decompose f n t s).left
      unfolding decompose decompose_from
      all_inverted =
          let past = on (rows_of t.offsets) (omega arith) regular 0 in
          let same : rows_of t.offsets + 0 ≡ rows_of t.offsets = omega arith in
          let is : decompose_from f n t 0 (rows_of t.offsets) s ≡ record { left = past.state; stopped = none } = rw same at past.is in
          rw is (refl, past.inverted)

      pub plain_runs : (decompose f n t s).stopped ≡ none
      plain_runs = all_inverted.0

      -- each block of the diagonal is the inverse of the given one
      pub plain_diagonal : (i : ℕ) → i < rows_of t.offsets → block_at n (decompose f n t s).left.diagonal i ≡ inverse f n (block_at n s.diagonal i)
      plain_diagonal i below = all_inverted.1.diagonal.done i below

      pub plain_values : (decompose f n t s).left.values ≡ s.values
      plain_values = all_inverted.1.values

    -- Where row m has the first singular pivot.
    module _ (m : ℕ) (inside : m < rows_of t.offsets) (regular : (i : ℕ) → i < m → singular f n (block_at n s.diagonal i) ≡ false)
        (zero_is : singular f n (block_at n s.diagonal m) ≡ true) where
      some_inverted : ((decompose f n t s).stopped ≡ some m) × Inverted m (decompose f n t s).left
      unfolding decompose
      some_inverted =
          let past = on m (omega arith) regular (suc (rows_of t.offsets - suc m)) in
          let same : m + suc (rows_of t.offsets - suc m) ≡ rows_of t.offsets = omega arith in
          let stop = from_stop f n t m (rows_of t.offsets - suc m) past.state (pivot_is m past.state inside past.inverted ∙ zero_is) in
          let is : decompose_from f n t 0 (rows_of t.offsets) s ≡ record { left = past.state; stopped = some m }
          = rw (same, plain_reduced m past.state) at (past.is ∙ stop) in
          rw is (refl, past.inverted)

      pub plain_stops : (decompose f n t s).stopped ≡ some m
      plain_stops = some_inverted.0

      -- earlier blocks are inverted, and the others are as given
      pub plain_before : (i : ℕ) → i < m → block_at n (decompose f n t s).left.diagonal i ≡ inverse f n (block_at n s.diagonal i)
      plain_before i below = some_inverted.1.diagonal.done i below

      pub plain_after : (i : ℕ) → m ≤ i → i < rows_of t.offsets → block_at n (decompose f n t s).left.diagonal i ≡ block_at n s.diagonal i
      plain_after i past below = some_inverted.1.diagonal.rest i past below

      pub plain_stop_values : (decompose f n t s).left.values ≡ s.values
      plain_stop_values = some_inverted.1.values

-- The solve, of a vector with N values to a row.
module _ (f : Format) (n : ℕ) (t : FactorPattern) (plain : NoEntries t) (s : FactorValues) (x : List Float) (long : length x ≡ n * rows_of t.offsets) where
  -- what becomes of row i
  abbrev times : ℕ → List Float → List Float
  times i r = applied f n (block_at n s.diagonal i) r

  forward_is : (i : ℕ) (y : List Float) → forward_row f n t s i y ≡ put_at (n * i) (times i (vector_at n y i)) y
  unfolding forward_row less_entries
  forward_is i y =
      rw (iterate_none (less_entry f n t.columns s.values y) (get_or t.offsets i 0) (get_or t.splits i 0) (vector_at n y i) (omega (arith, plain.splits i)))

  backward_is : (i : ℕ) (y : List Float) → backward_row f n t s i y ≡ put_at (n * i) (vector_at n y i) y
  unfolding backward_row less_entries
  backward_is i y =
      rw (iterate_none (less_entry f n t.columns s.values y) (get_or t.splits i 0) (get_or t.offsets (i + 1) 0) (vector_at n y i) (omega (arith, plain.offsets (i + 1))))

  -- forward, each row is multiplied
  forward_made : Made n (rows_of t.offsets) times x (rows_of t.offsets) (iterate (forward_row f n t s) 0 (rows_of t.offsets) x)
  forward_made =
      iterate_keeps (forward_row f n t s) (λ m y. Made n (rows_of t.offsets) times x m y) 0 x (rows_of t.offsets) (omega arith)
      (made_none n (rows_of t.offsets) times x (omega (arith, long)))
      (λ m y _ below so. rw (forward_is m y) (made_next n (rows_of t.offsets) times x (omega (arith, long)) m y below
      (length_listed n (λ r. sum_to f n (λ q. mul f (element n (block_at n s.diagonal m) r q) (get_or (vector_at n y m) q nan)))) so))

  -- backward, each row is put back as it is
  record Same (y z : List Float) : Type 0 where
    size : length z ≡ length y
    rows : (w : ℕ) → w < rows_of t.offsets → vector_at n z w ≡ vector_at n y w

  same_made : {y z : List Float} (m : ℕ) → m < rows_of t.offsets → Same y z → Made n (rows_of t.offsets) (λ i r. r) y m z
  same_made m below so = record { long = so.size; done = λ w h. so.rows w (omega arith); rest = λ w h l. so.rows w l }

  made_same : {y z : List Float} (m : ℕ) → Made n (rows_of t.offsets) (λ i r. r) y m z → Same y z
  made_same {y} {z} m so = record { size = so.long; rows = λ w below. at w below (ltb w m) refl }
    where
      at : (w : ℕ) → w < rows_of t.offsets → (b : Bool) → ltb w m ≡ b → vector_at n z w ≡ vector_at n y w
      at w below true e = so.done w (ltb-true w m e)
      at w below false e = so.rest w (ltb-false w m e) below

  back_same : {y z : List Float} (i : ℕ) → length y ≡ n * rows_of t.offsets → i < rows_of t.offsets → Same y z → Same y (backward_row f n t s i z)
  back_same {y} {z} i wide below so =
      rw (backward_is i z) (made_same (i + 1) (made_next n (rows_of t.offsets) (λ j r. r) y (omega (arith, wide)) i z below
      (length_listed n (λ k. get_or z (n * i + k) nan)) (same_made i below so)))

  backward_same : (y : List Float) → length y ≡ n * rows_of t.offsets
      → Same y (iterate (λ k. backward_row f n t s (rows_of t.offsets - 1 - k)) 0 (rows_of t.offsets) y)
  backward_same y wide =
      stays (λ k. backward_row f n t s (rows_of t.offsets - 1 - k)) (Same y) 0 y (rows_of t.offsets) (record { size = refl; rows = λ w h. refl })
      (λ k z _ h so. back_same (rows_of t.offsets - 1 - k) wide (omega (arith, h)) so)

  pub plain_solve_long : length (solve f n t s x) ≡ length x
  unfolding solve
  plain_solve_long = (backward_same _ (forward_made.long ∙ long)).size ∙ forward_made.long

  -- row i of the result is the pivot's block times the given row
  pub plain_solve : (i : ℕ) → i < rows_of t.offsets → vector_at n (solve f n t s x) i ≡ applied f n (block_at n s.diagonal i) (vector_at n x i)
  unfolding solve
  plain_solve i below = (backward_same _ (forward_made.long ∙ long)).rows i below ∙ forward_made.done i below
