-- `unchecked::is_surely_right` meets its promise: where the ends of the offsets are right and so are the rows, the pattern and its splits are.
-- Assumes nothing.
use mathlib.Core.Path.{◌≡◌, sym, ◌∙◌}
use Prim.Native.Nat.{◌≤◌}
use native.Mathlib.Omega.{arith}
use lib.ListN.{length, get_or}
use Rattle.patterns.specs.Pattern.{rows_of}
use Rattle.patterns.proofs.SizeLaws.{rows_least, rows_most, columns_most}
use Rattle.factor_check.proofs.RowLaws.{unsure}
use Rattle.factor_check.proofs.RightLaws.{pattern_right, splits_right}
use Rattle.factor_check.proofs.unchecked.is_surely_right.Goals as goal

pub bounds-offsets-0 : goal.bounds-offsets-0
bounds-offsets-0 c =
    -- what check 1 leaves
    let sizes : (1 ≤ rows_of c.args.offsets.now) × (rows_of c.args.offsets.now ≤ 4096) × (length c.args.columns.now ≤ 65535) = let o = length c.args.offsets.now in
    let cs = length c.args.columns.now in
    (rows_least o cs c.requires.0, rows_most o cs c.requires.0, columns_most o cs c.requires.0) in
    omega (arith, sizes)

pub returns-then-offsets-ne0 : goal.returns-then-offsets-ne0
returns-then-offsets-ne0 c = λ e. unsure e

pub overflow_sub-offsets : goal.overflow_sub-offsets
overflow_sub-offsets c =
    -- what check 1 leaves
    let sizes : (1 ≤ rows_of c.args.offsets.now) × (rows_of c.args.offsets.now ≤ 4096) × (length c.args.columns.now ≤ 65535) = let o = length c.args.offsets.now in
    let cs = length c.args.columns.now in
    (rows_least o cs c.requires.0, rows_most o cs c.requires.0, columns_most o cs c.requires.0) in
    omega (arith, sizes)

pub bounds-offsets-offsets : goal.bounds-offsets-offsets
bounds-offsets-offsets c =
    -- what check 1 leaves
    let sizes : (1 ≤ rows_of c.args.offsets.now) × (rows_of c.args.offsets.now ≤ 4096) × (length c.args.columns.now ≤ 65535) = let o = length c.args.offsets.now in
    let cs = length c.args.columns.now in
    (rows_least o cs c.requires.0, rows_most o cs c.requires.0, columns_most o cs c.requires.0) in
    omega (arith, sizes)

pub returns-then-wide-columns : goal.returns-then-wide-columns
returns-then-wide-columns c = λ e. unsure e

pub falls-requires : goal.falls-requires
falls-requires c =
    -- what check 1 leaves
    let sizes : (1 ≤ rows_of c.args.offsets.now) × (rows_of c.args.offsets.now ≤ 4096) × (length c.args.columns.now ≤ 65535) = let o = length c.args.offsets.now in
    let cs = length c.args.columns.now in
    (rows_least o cs c.requires.0, rows_most o cs c.requires.0, columns_most o cs c.requires.0) in
    sizes.2

pub are_rows_right-requires : goal.are_rows_right-requires
are_rows_right-requires c =
    -- what check 1 leaves
    let sizes : (1 ≤ rows_of c.args.offsets.now) × (rows_of c.args.offsets.now ≤ 4096) × (length c.args.columns.now ≤ 65535) = let o = length c.args.offsets.now in
    let cs = length c.args.columns.now in
    (rows_least o cs c.requires.0, rows_most o cs c.requires.0, columns_most o cs c.requires.0) in
    (sizes.1, c.requires.1)

pub returns : goal.returns
returns c =
    -- what check 1 leaves
    let sizes : (1 ≤ rows_of c.args.offsets.now) × (rows_of c.args.offsets.now ≤ 4096) × (length c.args.columns.now ≤ 65535) = let o = length c.args.offsets.now in
    let cs = length c.args.columns.now in
    (rows_least o cs c.requires.0, rows_most o cs c.requires.0, columns_most o cs c.requires.0) in
    λ e.
    let a = c.args in
    let right = c.are_rows_right.ensures e in
    let first = c.if-offsets-ne0.false in
    let last : get_or a.offsets.now (rows_of a.offsets.now) 0 ≡ length a.columns.now =
    sym c.wide.ensures ∙ c.if-wide-columns.false in (
      pattern_right a.offsets.now a.columns.now a.splits.now _ right c.falls.ensures sizes.0 sizes.1 first last,
      splits_right a.offsets.now a.columns.now a.splits.now _ right c.falls.ensures sizes.0 sizes.1 first last,
    )
