-- `unchecked::find_pair` meets its promise: a pair goes to the diagonal, or its entry is looked up and kept.
-- Assumes nothing.
use mathlib.Core.Path.{sym, ◌∙◌}
use native.Mathlib.Omega.{arith}
use Rattle.patterns.specs.Pattern.{rows_of}
use Rattle.elements.proofs.FitLaws.{node_inside}
use Rattle.elements.proofs.FindLaws.{pair_skipped, pair_missing, pair_found}
use Rattle.elements.proofs.unchecked.find_pair.Goals as goal

pub returns-then-goes_to_diagonal : goal.returns-then-goes_to_diagonal
returns-then-goes_to_diagonal c =
    let a = c.args in
    pair_skipped a.rule c.requires.0 a.a a.b c.requires.1 c.requires.2 _ c.requires.3 (sym c.goes_to_diagonal.ensures ∙ c.if-goes_to_diagonal.true)

pub overflow_cast-rows : goal.overflow_cast-rows
overflow_cast-rows c = record { fits = omega (arith, c.shared_slice_known-5-1.given c.args.a) }

pub entry_in-entry-requires : goal.entry_in-entry-requires
entry_in-entry-requires c =
    let a = c.args in
    (c.requires.0.pattern, node_inside (rows_of a.offsets.now) a.rows.now c.requires.0.inside a.a c.requires.1)

pub returns-then-not-is_place : goal.returns-then-not-is_place
returns-then-not-is_place c =
    let a = c.args in
    pair_missing a.rule c.requires.0 a.a a.b c.requires.1 c.requires.2 _ c.entry_in-entry.ensures (sym c.goes_to_diagonal.ensures ∙ c.if-goes_to_diagonal.false)
    _ (sym c.is_place.ensures ∙ c.if-not-is_place.true)

pub returns : goal.returns
returns c =
    let a = c.args in
    pair_found a.rule c.requires.0 a.a a.b c.requires.1 c.requires.2 _ c.entry_in-entry.ensures (sym c.goes_to_diagonal.ensures ∙ c.if-goes_to_diagonal.false)
    _ c.requires.3 (sym c.is_place.ensures ∙ c.if-not-is_place.false)
