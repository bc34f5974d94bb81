-- `unchecked::add_pair` meets its promise: the rule decides which of the two lists gets the block.
-- Assumes nothing.
use mathlib.Core.Path.{sym, ◌∙◌}
use Prim.Native.Nat.{◌+◌, ◌*◌, ◌<◌}
use native.Mathlib.Omega.{arith}
use lib.Ieee.{binary64}
use lib.ListN.{length}
use Rattle.elements.specs.Fits.{kept_at}
use Rattle.elements.proofs.FitLaws.{pair_fits, pair_small, entry_small}
use Rattle.elements.proofs.AddLaws.{pair_diagonal, pair_entry}
use Rattle.elements.proofs.unchecked.add_pair.Goals as goal

pub overflow_mul-k : goal.overflow_mul-k
overflow_mul-k g c =
    -- the column node is below m too
    let below : c.args.b < length c.args.rows.now = omega (arith, c.requires.0.alike, c.requires.2) in
    -- the number of the pair's block is no larger than a length
    let small : length c.args.rows.now * c.args.a + c.args.b < length c.args.element.now = pair_small c.requires.0 c.args.a c.args.b c.requires.1 below in
    record { fits = omega (arith, small) }

pub overflow_add-k : goal.overflow_add-k
overflow_add-k g c =
    -- the column node is below m too
    let below : c.args.b < length c.args.rows.now = omega (arith, c.requires.0.alike, c.requires.2) in
    -- the number of the pair's block is no larger than a length
    let small : length c.args.rows.now * c.args.a + c.args.b < length c.args.element.now = pair_small c.requires.0 c.args.a c.args.b c.requires.1 below in
    record { fits = omega (arith, small) }

pub overflow_cast-rows : goal.overflow_cast-rows
overflow_cast-rows g c = record { fits = omega (arith, c.shared_slice_known-then-goes_to_diagonal-1.given c.args.a) }

pub add_at-requires : goal.add_at-requires
add_at-requires g c =
    -- the column node is below m too
    let below : c.args.b < length c.args.rows.now = omega (arith, c.requires.0.alike, c.requires.2) in
    let a = c.args in (
      c.requires.0.of_diagonal a.a a.b c.requires.1 below (sym c.goes_to_diagonal.ensures ∙ c.if-goes_to_diagonal.true),
      pair_fits c.requires.0 a.a a.b c.requires.1 below,
    )

pub overflow_cast-places : goal.overflow_cast-places
overflow_cast-places g c =
    -- the column node is below m too
    let below : c.args.b < length c.args.rows.now = omega (arith, c.requires.0.alike, c.requires.2) in
    record { fits = omega (arith, entry_small c.requires.0 c.args.a c.args.b c.requires.1 below (sym c.goes_to_diagonal.ensures ∙ c.if-goes_to_diagonal.false)) }

pub add_at-requires-else-goes_to_diagonal : goal.add_at-requires-else-goes_to_diagonal
add_at-requires-else-goes_to_diagonal g c =
    -- the column node is below m too
    let below : c.args.b < length c.args.rows.now = omega (arith, c.requires.0.alike, c.requires.2) in
    let a = c.args in (
      c.requires.0.of_values a.a a.b c.requires.1 below (sym c.goes_to_diagonal.ensures ∙ c.if-goes_to_diagonal.false),
      pair_fits c.requires.0 a.a a.b c.requires.1 below,
    )

pub returns-then-goes_to_diagonal : goal.returns-then-goes_to_diagonal
returns-then-goes_to_diagonal g c =
    let a = c.args in
    pair_diagonal binary64 g.S.Size.DIM a.rule a.rows.now a.cols.now a.element.now (kept_at a.places.now) a.a a.b a.diagonal.now a.values.now _
    (sym c.goes_to_diagonal.ensures ∙ c.if-goes_to_diagonal.true) c.add_at.ensures

pub returns-else-goes_to_diagonal : goal.returns-else-goes_to_diagonal
returns-else-goes_to_diagonal g c =
    let a = c.args in
    pair_entry binary64 g.S.Size.DIM a.rule a.rows.now a.cols.now a.element.now (kept_at a.places.now) a.a a.b a.diagonal.now a.values.now _
    (sym c.goes_to_diagonal.ensures ∙ c.if-goes_to_diagonal.false) c.add_at-else-goes_to_diagonal.ensures
