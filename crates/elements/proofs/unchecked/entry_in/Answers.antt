-- `unchecked::entry_in` meets its promise: the row's part of the columns is searched, and a place in it is counted from the row's offset.
-- Assumes nothing.
use mathlib.Core.Path.{◌≡◌, sym, ◌∙◌}
use Prim.Native.Nat.{◌+◌, ◌≤◌}
use native.Mathlib.Omega.{arith}
use lib.ListN.{length, get_or}
use Rattle.elements.specs.Pairs.{place_of}
use Rattle.elements.proofs.EntryLaws.{looked_up, no_entry, some_entry, few_columns, ends, short, entry_below}
use Rattle.elements.proofs.unchecked.entry_in.Goals as goal

pub overflow_cast-from : goal.overflow_cast-from
overflow_cast-from c = record { fits = omega (arith, c.shared_slice_known-3-1.given c.args.i) }

pub overflow_cast-to : goal.overflow_cast-to
overflow_cast-to c = record { fits = omega (arith, c.shared_slice_known-4-1.given (c.args.i + 1)) }

pub offset_bounds-columns-from : goal.offset_bounds-columns-from
offset_bounds-columns-from c =
    -- the row's ends are in order and within the columns
    let in_order : (let a = c.args in
    (get_or a.offsets.now a.i 0 ≤ get_or a.offsets.now (a.i + 1) 0) × (get_or a.offsets.now (a.i + 1) 0 ≤ length a.columns.now)) = ends c.requires.0 c.args.i c.requires.1 in
    omega (arith, in_order)

pub slice_bounds-place_in-count : goal.slice_bounds-place_in-count
slice_bounds-place_in-count c =
    -- the row's ends are in order and within the columns
    let in_order : (let a = c.args in
    (get_or a.offsets.now a.i 0 ≤ get_or a.offsets.now (a.i + 1) 0) × (get_or a.offsets.now (a.i + 1) 0 ≤ length a.columns.now)) = ends c.requires.0 c.args.i c.requires.1 in
    omega (arith, in_order)

pub slice_bounds-place_in-start : goal.slice_bounds-place_in-start
slice_bounds-place_in-start c =
    -- the row's ends are in order and within the columns
    let in_order : (let a = c.args in
    (get_or a.offsets.now a.i 0 ≤ get_or a.offsets.now (a.i + 1) 0) × (get_or a.offsets.now (a.i + 1) 0 ≤ length a.columns.now)) = ends c.requires.0 c.args.i c.requires.1 in
    omega (arith, in_order)

pub slice_bounds-place_in-end : goal.slice_bounds-place_in-end
slice_bounds-place_in-end c =
    -- the row's ends are in order and within the columns
    let in_order : (let a = c.args in
    (get_or a.offsets.now a.i 0 ≤ get_or a.offsets.now (a.i + 1) 0) × (get_or a.offsets.now (a.i + 1) 0 ≤ length a.columns.now)) = ends c.requires.0 c.args.i c.requires.1 in
    omega (arith, in_order)

pub place_in-place-requires : goal.place_in-place-requires
place_in-place-requires c = short c.requires.0 c.args.i c.requires.1

pub returns-then-not-is_place : goal.returns-then-not-is_place
returns-then-not-is_place c =
    -- what the lookup found
    let found : (let a = c.args in c.place_in-place.result ≡ place_of a.offsets.now a.columns.now a.i a.column) = let a = c.args in looked_up a.offsets.now a.columns.now a.i a.column _ c.place_in-place.ensures in
    let a = c.args in
    no_entry a.offsets.now a.columns.now a.i a.column _ found (sym c.is_place.ensures ∙ c.if-not-is_place.true)

pub overflow_add-result : goal.overflow_add-result
overflow_add-result c =
    -- what the lookup found
    let found : (let a = c.args in c.place_in-place.result ≡ place_of a.offsets.now a.columns.now a.i a.column) = let a = c.args in looked_up a.offsets.now a.columns.now a.i a.column _ c.place_in-place.ensures in
    let below = entry_below c.requires.0 c.args.i c.requires.1 c.args.column _ found (sym c.is_place.ensures ∙ c.if-not-is_place.false) in
    record { fits = omega (arith, below, few_columns c.requires.0 c.args.i c.requires.1) }

pub returns : goal.returns
returns c =
    -- what the lookup found
    let found : (let a = c.args in c.place_in-place.result ≡ place_of a.offsets.now a.columns.now a.i a.column) = let a = c.args in looked_up a.offsets.now a.columns.now a.i a.column _ c.place_in-place.ensures in
    let a = c.args in
    some_entry a.offsets.now a.columns.now a.i a.column _ found (sym c.is_place.ensures ∙ c.if-not-is_place.false)
