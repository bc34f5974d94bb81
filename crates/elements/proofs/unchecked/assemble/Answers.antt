-- `unchecked::assemble` meets its promise: a node or an entry that is missing ends it before the first addition.
-- Assumes nothing.
use mathlib.Core.Path.{◌≡◌, sym, ◌∙◌}
use mathlib.Core.Bool.{true}
use Prim.Native.Nat.{ℕ, ◌≤◌}
use native.Mathlib.Omega.{arith}
use lib.Ieee.{binary64}
use lib.ListN.{length, length-replicate}
use Rattle.patterns.specs.Pattern.{rows_of, all_below}
use Rattle.patterns.proofs.SizeLaws.{rows_least, rows_most}
use Rattle.elements.specs.Pairs.{are_stored}
use Rattle.elements.proofs.FitLaws.{find_fits, add_fits}
use Rattle.elements.proofs.EndsLaws.{row_outside, column_outside, entry_missing, all_added, added_there}
use Rattle.elements.proofs.unchecked.assemble.Goals as goal

pub overflow_sub-n : goal.overflow_sub-n
overflow_sub-n g c =
    -- the number of rows, which is the number that the nodes are compared with
    let rows-in-range : (1 ≤ rows_of c.args.offsets.now) × (rows_of c.args.offsets.now ≤ 4096) = let o = length c.args.offsets.now in
    let cs = length c.args.columns.now in
    (rows_least o cs c.requires.pattern.sized, rows_most o cs c.requires.pattern.sized) in
    omega (arith, rows-in-range)

pub overflow_cast-n : goal.overflow_cast-n
overflow_cast-n g c =
    -- the number of rows, which is the number that the nodes are compared with
    let rows-in-range : (1 ≤ rows_of c.args.offsets.now) × (rows_of c.args.offsets.now ≤ 4096) = let o = length c.args.offsets.now in
    let cs = length c.args.columns.now in
    (rows_least o cs c.requires.pattern.sized, rows_most o cs c.requires.pattern.sized) in
    record { fits = omega (arith, rows-in-range) }

pub returns-then-not-are_below : goal.returns-then-not-are_below
returns-then-not-are_below g c =
    let a = c.args in
    row_outside a.rule a.rows.now a.cols.now a.offsets.now a.columns.now _ _ (sym c.are_below.ensures ∙ c.if-not-are_below.true)

pub returns-then-not-are_below-2 : goal.returns-then-not-are_below-2
returns-then-not-are_below-2 g c =
    -- past the first test every row node is a row, past the second every column node
    let rows_in : all_below (rows_of c.args.offsets.now) c.args.rows.now ≡ true = sym c.are_below.ensures ∙ c.if-not-are_below.false in
    let a = c.args in
    column_outside a.rule a.rows.now a.cols.now a.offsets.now a.columns.now _ _ rows_in (sym c.are_below-2.ensures ∙ c.if-not-are_below-2.true)

pub find_places-requires : goal.find_places-requires
find_places-requires g c =
    -- past the first test every row node is a row, past the second every column node
    let rows_in : all_below (rows_of c.args.offsets.now) c.args.rows.now ≡ true = sym c.are_below.ensures ∙ c.if-not-are_below.false in
    (find_fits c.requires rows_in, length-replicate {A = ℕ} 64 0)

pub returns-then-not-find_places : goal.returns-then-not-find_places
returns-then-not-find_places g c =
    -- past the first test every row node is a row, past the second every column node
    let rows_in : all_below (rows_of c.args.offsets.now) c.args.rows.now ≡ true = sym c.are_below.ensures ∙ c.if-not-are_below.false in
    let cols-in : all_below (rows_of c.args.offsets.now) c.args.cols.now ≡ true = sym c.are_below-2.ensures ∙ c.if-not-are_below-2.false in
    let a = c.args in
    entry_missing a.rule a.rows.now a.cols.now a.offsets.now a.columns.now _ _ rows_in cols-in
    (sym c.find_places.ensures.told ∙ c.if-not-find_places.true)

pub add_all-requires : goal.add_all-requires
add_all-requires g c =
    -- past the first test every row node is a row, past the second every column node
    let rows_in : all_below (rows_of c.args.offsets.now) c.args.rows.now ≡ true = sym c.are_below.ensures ∙ c.if-not-are_below.false in
    -- past the third every pair has its entry
    let found : c.find_places.result ≡ true = c.if-not-find_places.false in
    let stored : (let a = c.args in are_stored a.rule a.rows.now a.cols.now a.offsets.now a.columns.now ≡ true) = sym c.find_places.ensures.told ∙ found in
    add_fits c.requires rows_in stored _ (c.find_places.ensures.kept found)

pub returns : goal.returns
returns g c =
    -- past the first test every row node is a row, past the second every column node
    let rows_in : all_below (rows_of c.args.offsets.now) c.args.rows.now ≡ true = sym c.are_below.ensures ∙ c.if-not-are_below.false in
    let cols-in : all_below (rows_of c.args.offsets.now) c.args.cols.now ≡ true = sym c.are_below-2.ensures ∙ c.if-not-are_below-2.false in
    -- past the third every pair has its entry
    let found : c.find_places.result ≡ true = c.if-not-find_places.false in
    let stored : (let a = c.args in are_stored a.rule a.rows.now a.cols.now a.offsets.now a.columns.now ≡ true) = sym c.find_places.ensures.told ∙ found in
    let a = c.args in
    all_added a.rule a.rows.now a.cols.now a.offsets.now a.columns.now _ _ rows_in cols-in stored _
    (added_there c.requires rows_in stored _ (c.find_places.ensures.kept found) binary64 a.element.now _ _ c.add_all.ensures)
