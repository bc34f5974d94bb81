-- A row that was finished is never changed by later rows: d rows from row i on change the blocks of these rows alone.
-- Assumes nothing.
use mathlib.Core.Path.{◌≡◌}
use mathlib.Core.Bool.{Bool, true, false, cond}
use mathlib.Core.Option.{some}
use Prim.Native.Nat.{ℕ, zero, suc, ◌+◌, ◌≤◌, ◌<◌}
use native.Mathlib.Numerals.{add-one}
use native.Mathlib.Omega.{arith}
use lib.ListN.{length, get_or}
use lib.Ieee.{Format}
use Rattle.blocks.specs.Inverse.{singular}
use Rattle.blocks.specs.Lent.{block_at}
use Rattle.patterns.specs.Pattern.{rows_of}
use Rattle.factors.specs.Factor.{FactorPattern, FactorValues, Decomposed, reduce_row, finish_row, decompose_from}
use Rattle.factors.proofs.RowLaws.{Fits, diagonal_room, place_room, Apart, RowsAlone, alone_none, alone_fits, alone_more, alone_again, reduce_alone, finish_alone}

-- what is left on both ways is left on the one that is gone
either : (P : FactorValues → Type 0) (b : Bool) (x y : Decomposed) → P x.left → P y.left → P (cond b x y).left
either P true x y p q = p
either P false x y p q = q

-- offsets never fall
pub offsets_up : {t : FactorPattern} → Apart t → (i d : ℕ) → i + d ≤ rows_of t.offsets → get_or t.offsets i 0 ≤ get_or t.offsets (i + d) 0
offsets_up {t} apart i zero within = rw (same) (omega arith)
  where
    same : i + 0 ≡ i
    same = omega arith
offsets_up {t} apart i (suc d) within =
    let e : i + suc d ≡ (i + d) + 1 = omega arith in
    rw e (omega (arith, offsets_up apart i d (omega arith), apart.rising (i + d) (omega arith)))

module _ (f : Format) (n : ℕ) (t : FactorPattern) (apart : Apart t) where
  pub from_alone : (d i : ℕ) (s : FactorValues) → i + d ≤ rows_of t.offsets → Fits n t s → RowsAlone n t i (i + d) s (decompose_from f n t i d s).left
  unfolding decompose_from
  from_alone zero i s within fits = alone_none n t i (i + 0) s
  from_alone (suc d) i s within fits =
      let here : i < rows_of t.offsets = omega arith in
      let e : (i + 1) + d ≡ i + suc d = omega arith in
      let reduced = reduce_row f n t i s in
      let first = reduce_alone f n t i here s fits in
      let finished = alone_again t first (finish_alone f n t i here apart reduced (alone_fits fits first)) in
      let up = offsets_up apart i 1 (omega arith) in
      let on = rw e at (offsets_up apart (i + 1) d (omega arith)) in
      let rest : RowsAlone n t (i + 1) (i + suc d) (finish_row f n t i reduced) (decompose_from f n t (suc i) d (finish_row f n t i reduced)).left
      = rw (← add-one i, ← e) (from_alone d (i + 1) (finish_row f n t i reduced) (omega arith) (alone_fits fits finished)) in
      either (RowsAlone n t i (i + suc d) s) (singular f n (block_at n reduced.diagonal i)) (record { left = reduced; stopped = some i })
      (decompose_from f n t (suc i) d (finish_row f n t i reduced))
      (alone_more t first (alone_none n t (i + 1) (i + suc d) reduced) (omega arith) (omega arith) up on)
      (alone_more t finished rest (omega arith) (omega arith) up on)

  module _ (d i : ℕ) (s : FactorValues) (within : i + d ≤ rows_of t.offsets) (fits : Fits n t s) where
    -- the blocks of the rows before row i
    pub finished_diagonal : (w : ℕ) → w < i → block_at n (decompose_from f n t i d s).left.diagonal w ≡ block_at n s.diagonal w
    finished_diagonal w before = (from_alone d i s within fits).diagonal.before w before

    pub finished_place : (w : ℕ) → w < get_or t.offsets i 0 → block_at n (decompose_from f n t i d s).left.values w ≡ block_at n s.values w
    finished_place w before = (from_alone d i s within fits).values.before w before

    -- and of those that it doesn't come to
    pub later_diagonal : (w : ℕ) → i + d ≤ w → w < rows_of t.offsets → block_at n (decompose_from f n t i d s).left.diagonal w ≡ block_at n s.diagonal w
    later_diagonal w past below =
        (from_alone d i s within fits).diagonal.after w past (diagonal_room fits w below)

    pub later_place : (w : ℕ) → get_or t.offsets (i + d) 0 ≤ w → w < length t.columns → block_at n (decompose_from f n t i d s).left.values w ≡ block_at n s.values w
    later_place w past below =
        (from_alone d i s within fits).values.after w past (place_room fits w below)

    -- the values still have their room
    pub from_fits : Fits n t (decompose_from f n t i d s).left
    from_fits = alone_fits fits (from_alone d i s within fits)
