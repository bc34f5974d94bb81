-- `unchecked::has_all_places` meets its promise: after i turns the first i rows have all their places.
-- Assumes nothing.
use mathlib.Core.Path.{◌≡◌, sym, ◌∙◌}
use mathlib.Core.Bool.{Bool}
use Prim.Native.Nat.{ℕ}
use Rattle.base.proofs.All.{all_stop}
use Rattle.patterns.specs.Pattern.{rows_of, row_of}
use Rattle.factors.specs.Copy.{row_has_places, all_have_places}
use Rattle.copy_check.proofs.LookLaws.{looks}
use borrow.Author.Rules.{rules}
use Rattle.copy_check.proofs.unchecked.has_all_places.Goals as goal

pub row_has_places-requires : goal.row_has_places-requires
unfolding row_of
row_has_places-requires c =
    let rows = looks c.requires c.loop-i.i (search rules) in
    (c.loop-i.invariant.0, rows.0, rows.1)

pub returns-then-not-row_has_places : goal.returns-then-not-row_has_places
unfolding all_have_places row_of
returns-then-not-row_has_places c =
    -- whether a row has all its places
    let test : ℕ → Bool = λ k. let a = c.args in row_has_places (row_of a.offsets.now a.columns.now k) (row_of a.starts.now a.entries.now k) in
    -- what the call says of row i
    let told : c.row_has_places.result ≡ test c.loop-i.i = c.row_has_places.ensures.0 in
    sym (all_stop test c.loop-i.i (rows_of c.args.starts.now) (search rules) (sym told ∙ c.if-not-row_has_places.true))
