-- Where a decomposition stops, and what it leaves: earlier rows are finished, the row that stops is reduced, later rows are as given; and where nothing stops, every row is finished.
-- Assumes nothing.
use mathlib.Core.Path.{◌≡◌, refl, sym, ap, ◌∙◌}
use mathlib.Core.Bool.{Bool, true, false}
use mathlib.Core.Option.{Option, none, some}
use Prim.Native.Nat.{ℕ, zero, suc, ◌+◌, ◌-◌, ◌≤◌, ◌<◌}
use native.Mathlib.Numerals.{add-one}
use native.Mathlib.Omega.{arith}
use lib.ListN.{length, get_or}
use lib.Ieee.{Format}
use Rattle.base.specs.Iterate.{iterate}
use Rattle.base.proofs.Iterate.{iterate_none, iterate_more, iterate_join}
use Rattle.blocks.specs.Inverse.{singular}
use Rattle.blocks.specs.Lent.{block_at}
use Rattle.patterns.specs.Pattern.{rows_of}
use Rattle.factors.specs.Factor.{FactorPattern, FactorValues, Decomposed, reduce_row, finish_row, decompose_from, decompose}
use Rattle.factors.proofs.RowLaws.{Fits, diagonal_room, place_room, Apart, RowsAlone, reduce_alone}
use Rattle.factors.proofs.Finished.{from_fits, later_diagonal, later_place}

-- a row is reduced and finished
abbrev pub whole_row : Format → ℕ → FactorPattern → ℕ → FactorValues → FactorValues
whole_row f n t i s = finish_row f n t i (reduce_row f n t i s)

-- the first step of a range, and those after it
pub iterate_first : {S : Type 0} (f : ℕ → S → S) (lo hi : ℕ) (s : S) → lo < hi → iterate f (suc lo) hi (f lo s) ≡ iterate f lo hi s
iterate_first f lo hi s less =
    let one : iterate f lo (lo + 1) s ≡ f lo s = iterate_more f lo lo s (omega arith) ∙ ap (f lo) (iterate_none f lo lo s (omega arith)) in
    rw (one, add-one lo) at (iterate_join f lo (lo + 1) hi s (omega arith) (omega arith))

module _ (f : Format) (n : ℕ) (t : FactorPattern) where
  -- a row whose pivot can be inverted, and one whose pivot can't
  pub from_on : (a d : ℕ) (s : FactorValues) → singular f n (block_at n (reduce_row f n t a s).diagonal a) ≡ false
      → decompose_from f n t a (suc d) s ≡ decompose_from f n t (suc a) d (whole_row f n t a s)
  unfolding decompose_from
  from_on a d s regular = rw regular

  pub from_stop : (a d : ℕ) (s : FactorValues) → singular f n (block_at n (reduce_row f n t a s).diagonal a) ≡ true
      → decompose_from f n t a (suc d) s ≡ record { left = reduce_row f n t a s; stopped = some a }
  unfolding decompose_from
  from_stop a d s zero_is = rw zero_is

  never : (a : ℕ) (x : Option ℕ) → x ≡ some a → x ≡ none → ⊥
  never a x p q = let z : ◌≡◌ {A = ℕ} 0 1 = cc in omega arith

  -- Where nothing stops, every row is finished.
  none_step : (d a : ℕ) (s : FactorValues) (b : Bool) → singular f n (block_at n (reduce_row f n t a s).diagonal a) ≡ b
      → ((decompose_from f n t (suc a) d (whole_row f n t a s)).stopped ≡ none
      → (decompose_from f n t (suc a) d (whole_row f n t a s)).left ≡ iterate (whole_row f n t) (suc a) (suc a + d) (whole_row f n t a s))
      → (decompose_from f n t a (suc d) s).stopped ≡ none → (decompose_from f n t a (suc d) s).left ≡ iterate (whole_row f n t) a (a + suc d) s
  none_step d a s true e rest runs = absurd (never a _ (ap (λ (x : Decomposed). x.stopped) (from_stop a d s e)) runs)
  none_step d a s false e rest runs =
      let same : suc a + d ≡ a + suc d = omega arith in
      ap (λ (x : Decomposed). x.left) (from_on a d s e)
      ∙ rw same at (rest (sym (ap (λ (x : Decomposed). x.stopped) (from_on a d s e)) ∙ runs)) ∙ iterate_first (whole_row f n t) a (a + suc d) s (omega arith)

  pub from_none : (d a : ℕ) (s : FactorValues) → (decompose_from f n t a d s).stopped ≡ none → (decompose_from f n t a d s).left ≡ iterate (whole_row f n t) a (a + d) s
  unfolding decompose_from
  from_none zero a s runs = sym (iterate_none (whole_row f n t) a (a + 0) s (omega arith))
  from_none (suc d) a s runs = none_step d a s (singular f n (block_at n (reduce_row f n t a s).diagonal a)) refl (from_none d (suc a) (whole_row f n t a s)) runs

  -- A stop at row i, of d rows from row a on: the rows before it were finished and none of them stopped, and row i is reduced, with a pivot that can't be inverted.
  pub record StoppedAt (a d : ℕ) (s : FactorValues) (i : ℕ) : Type 0 where
    pub low : a ≤ i
    pub high : i < a + d
    pub earlier : decompose_from f n t a (i - a) s ≡ record { left = iterate (whole_row f n t) a i s; stopped = none }
    pub pivot : singular f n (block_at n (reduce_row f n t i (iterate (whole_row f n t) a i s)).diagonal i) ≡ true
    pub left : (decompose_from f n t a d s).left ≡ reduce_row f n t i (iterate (whole_row f n t) a i s)

  stop_here : (a d : ℕ) (s : FactorValues) → singular f n (block_at n (reduce_row f n t a s).diagonal a) ≡ true → StoppedAt a (suc d) s a
  unfolding decompose_from
  stop_here a d s zero_is =
      let none_yet : iterate (whole_row f n t) a a s ≡ s = iterate_none (whole_row f n t) a a s (omega arith) in
      let no_rows : a - a ≡ 0 = omega arith in
      record {
        low = omega arith;
        high = omega arith;
        earlier = rw (none_yet, no_rows);
        pivot = rw none_yet zero_is;
        left = rw (none_yet, zero_is);
      }

  stop_later : (a d : ℕ) (s : FactorValues) (i : ℕ) → singular f n (block_at n (reduce_row f n t a s).diagonal a) ≡ false
      → StoppedAt (suc a) d (whole_row f n t a s) i → StoppedAt a (suc d) s i
  stop_later a d s i regular so =
      let first : iterate (whole_row f n t) (suc a) i (whole_row f n t a s) ≡ iterate (whole_row f n t) a i s = iterate_first (whole_row f n t) a i s (omega (arith, so.low)) in
      let more : i - a ≡ suc (i - suc a) = omega (arith, so.low) in
      record {
        low = omega (arith, so.low);
        high = omega (arith, so.high);
        earlier = rw more (from_on a (i - suc a) s regular ∙ rw first at so.earlier);
        pivot = rw first at so.pivot;
        left = ap (λ (x : Decomposed). x.left) (from_on a d s regular) ∙ rw first at so.left;
      }

  stop_step : (d a : ℕ) (s : FactorValues) (i : ℕ) (b : Bool) → singular f n (block_at n (reduce_row f n t a s).diagonal a) ≡ b
      → ((decompose_from f n t (suc a) d (whole_row f n t a s)).stopped ≡ some i → StoppedAt (suc a) d (whole_row f n t a s) i)
      → (decompose_from f n t a (suc d) s).stopped ≡ some i → StoppedAt a (suc d) s i
  stop_step d a s i true e rest stops =
      let is : some a ≡ some i = sym (ap (λ (x : Decomposed). x.stopped) (from_stop a d s e)) ∙ stops in
      let same : a ≡ i = cc in
      rw (sym same) (stop_here a d s e)
  stop_step d a s i false e rest stops = stop_later a d s i e (rest (sym (ap (λ (x : Decomposed). x.stopped) (from_on a d s e)) ∙ stops))

  pub from_stopped : (d a : ℕ) (s : FactorValues) (i : ℕ) → (decompose_from f n t a d s).stopped ≡ some i → StoppedAt a d s i
  unfolding decompose_from
  from_stopped zero a s i stops = absurd (never i none stops refl)
  from_stopped (suc d) a s i stops = stop_step d a s i (singular f n (block_at n (reduce_row f n t a s).diagonal a)) refl (from_stopped d (suc a) (whole_row f n t a s) i) stops

-- all rows, where none stops
pub every_row : (f : Format) (n : ℕ) (t : FactorPattern) (s : FactorValues) → (decompose f n t s).stopped ≡ none → (decompose f n t s).left ≡ iterate (whole_row f n t) 0 (rows_of t.offsets) s
unfolding decompose
every_row f n t s runs =
    let e : 0 + rows_of t.offsets ≡ rows_of t.offsets = omega arith in
    rw e at (from_none f n t (rows_of t.offsets) 0 s runs)

-- all rows, where row i stops
module _ (f : Format) (n : ℕ) (t : FactorPattern) (s : FactorValues) (i : ℕ) (stops : (decompose f n t s).stopped ≡ some i) where
  stopped : StoppedAt f n t 0 (rows_of t.offsets) s i
  unfolding decompose
  stopped = from_stopped f n t (rows_of t.offsets) 0 s i stops

  earlier_rows : decompose_from f n t 0 i s ≡ record { left = iterate (whole_row f n t) 0 i s; stopped = none }
  earlier_rows =
      let e : i - 0 ≡ i = omega arith in
      rw e at stopped.earlier

  pub stop_row : i < rows_of t.offsets
  stop_row = omega (arith, stopped.high)

  -- the first i rows didn't stop, and each of them is finished
  pub stop_runs : (decompose_from f n t 0 i s).stopped ≡ none
  stop_runs = ap (λ (x : Decomposed). x.stopped) earlier_rows

  pub stop_earlier : (decompose_from f n t 0 i s).left ≡ iterate (whole_row f n t) 0 i s
  stop_earlier = ap (λ (x : Decomposed). x.left) earlier_rows

  -- row i is then reduced, and no more: its pivot can't be inverted
  pub stop_left : (decompose f n t s).left ≡ reduce_row f n t i (decompose_from f n t 0 i s).left
  unfolding decompose
  stop_left = rw stop_earlier stopped.left

  pub stop_pivot : singular f n (block_at n (decompose f n t s).left.diagonal i) ≡ true
  unfolding decompose
  stop_pivot = rw stopped.left stopped.pivot

  -- Block by block: rows before row i are as the first i rows leave them, and rows after it are as given.
  module _ (apart : Apart t) (fits : Fits n t s) where
    within : 0 + i ≤ rows_of t.offsets
    within = omega (arith, stop_row)

    run_fits : Fits n t (decompose_from f n t 0 i s).left
    run_fits = from_fits f n t apart i 0 s within fits

    last : RowsAlone n t i (i + 1) (decompose_from f n t 0 i s).left (decompose f n t s).left
    last = rw stop_left (reduce_alone f n t i stop_row (decompose_from f n t 0 i s).left run_fits)

    pub stop_diagonal_before : (w : ℕ) → w < i → block_at n (decompose f n t s).left.diagonal w ≡ block_at n (decompose_from f n t 0 i s).left.diagonal w
    stop_diagonal_before w before = last.diagonal.before w before

    pub stop_place_before : (w : ℕ) → w < get_or t.offsets i 0 → block_at n (decompose f n t s).left.values w ≡ block_at n (decompose_from f n t 0 i s).left.values w
    stop_place_before w before = last.values.before w before

    pub stop_diagonal_after : (w : ℕ) → i < w → w < rows_of t.offsets → block_at n (decompose f n t s).left.diagonal w ≡ block_at n s.diagonal w
    stop_diagonal_after w past below =
        last.diagonal.after w (omega (arith, past)) (diagonal_room run_fits w below) ∙ later_diagonal f n t apart i 0 s within fits w (omega (arith, past)) below

    pub stop_place_after : (w : ℕ) → get_or t.offsets (i + 1) 0 ≤ w → w < length t.columns → block_at n (decompose f n t s).left.values w ≡ block_at n s.values w
    stop_place_after w past below =
        let e : 0 + i ≡ i = omega arith in
        let up = apart.rising i stop_row in
        last.values.after w past (place_room run_fits w below) ∙ later_place f n t apart i 0 s within fits w (rw e (omega (arith, past, up))) below
