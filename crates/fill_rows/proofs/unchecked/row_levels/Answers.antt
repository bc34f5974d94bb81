-- `unchecked::row_levels` meets its promise: before p the row holds the levels by A and by rows below p, within its span.
-- Assumes nothing.
use mathlib.Core.Path.{refl, sym}
use native.Mathlib.Omega.{arith}
use Prim.Native.Nat.{◌<◌}
use lib.ListN.{length}
use Rattle.fill.specs.Fill.{stored}
use Rattle.fill.specs.Steps.{Levelled}
use Rattle.fill.proofs.SpanLaws.{skip_below, skip_rest}
use Rattle.fill.proofs.PivotLaws.{pivot_fits, pivot_levelled, pivot_within, levelled_as}
use Rattle.fill_rows.proofs.unchecked.row_levels.Goals as goal

pub loop-p-init : goal.loop-p-init
loop-p-init c =
    let S = c.start_row-span.ensures in
    let long = c.start_row-span.auto.row in (
      levelled_as long (skip_below _ _ _ _ _ _ _ (S.levelled c.args.k) S.within c.requires.loadable.in_row _ (omega (arith, c.min-p.ensures)) (omega (arith, c.min-p.ensures))),
      S.within,
      S.ordered,
      rw long S.in_row,
    )

pub take_pivot-high-requires : goal.take_pivot-high-requires
take_pivot-high-requires c =
    -- the row is as long as it came
    let lev : (let a = c.args in
    Levelled (stored a.starts.now a.entries.now) a.k (length a.row.now) c.loop-p.p a.i c.loop-p.row) = levelled_as (sym c.start_row-span.auto.row) c.loop-p.invariant.0 in
    pivot_fits _ _ _ _ _ _ _ _ _ _ _ _ lev c.requires.written (omega arith) c.requires.loadable.in_row refl refl c.requires.loadable.few

pub loop-p-preserved : goal.loop-p-preserved
loop-p-preserved c =
    -- the row is as long as it came
    let lev : (let a = c.args in
    Levelled (stored a.starts.now a.entries.now) a.k (length a.row.now) c.loop-p.p a.i c.loop-p.row) = levelled_as (sym c.start_row-span.auto.row) c.loop-p.invariant.0 in
    let l = c.loop-p in
    let h : l.p < c.args.i = omega arith in
    let long = c.start_row-span.auto.row in
    let w = pivot_within _ _ _ _ _ _ _ _ _ _ _ _ lev c.requires.written h c.requires.loadable.in_row refl refl _ l.high _ _ (omega arith) l.invariant.2 (rw long at l.invariant.3) l.invariant.1 c.take_pivot-high.ensures.0 c.take_pivot-high.ensures.1 in (
      levelled_as long
          (pivot_levelled _ _ _ _ _ _ _ _ _ _ _ _ lev c.requires.written h c.requires.loadable.in_row refl refl _ c.take_pivot-high.ensures.0),
      w.0,
      w.1,
      rw long w.2,
    )

pub returns-then-high-p : goal.returns-then-high-p
returns-then-high-p c =
    -- the row is as long as it came
    let lev : (let a = c.args in
    Levelled (stored a.starts.now a.entries.now) a.k (length a.row.now) c.loop-p.p a.i c.loop-p.row) = levelled_as (sym c.start_row-span.auto.row) c.loop-p.invariant.0 in
    let l = c.loop-p in
    record {
      levelled = skip_rest _ _ _ _ _ _ l.p _ lev l.invariant.1 c.requires.loadable.in_row (omega arith) (omega arith);
      within = l.invariant.1;
      ordered = l.invariant.2;
      in_row = rw c.start_row-span.auto.row at l.invariant.3;
    }
