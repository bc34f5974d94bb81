-- `unchecked::row_has_places` meets its promise: columns at which the rows agree have their places, and each other is looked up.
-- Assumes nothing.
use mathlib.Core.Path.{◌≡◌, sym, ap, ◌∙◌}
use mathlib.Core.Bool.{not}
use Prim.Native.Nat.{ℕ}
use borrow.Author.Tests.{eq-eqb}
use lib.Dec.{eqb}
use lib.ListN.{length}
use Rattle.base.proofs.All.{all_stop}
use Rattle.rows.specs.Lookup.{no_place}
use Rattle.factors.specs.Copy.{has_place, row_has_places}
use borrow.Author.Rules.{rules}
use Rattle.copy_check.proofs.unchecked.row_has_places.Goals as goal

pub returns-then-place_of : goal.returns-then-place_of
unfolding row_has_places has_place
returns-then-place_of c =
    -- a column's lookup says whether it has a place
    let looked : has_place c.args.row.now c.args.from.now c.loop-k.k ≡ not (eqb c.place_of.result no_place) = ap (λ (p : ℕ). not (eqb p no_place)) (sym c.place_of.ensures) in
    let a = c.args in (
      sym (all_stop (has_place a.row.now a.from.now) c.loop-k.k (length a.from.now) (search rules) (looked ∙ rw (eq-eqb _ _ c.if-place_of.true))),
      c.loop-k.invariant.0.long,
    )
