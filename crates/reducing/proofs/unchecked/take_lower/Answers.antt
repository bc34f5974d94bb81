-- `unchecked::take_lower` meets its promise: after the entries below e their pivots are taken.
-- Assumes nothing.
use mathlib.Core.Path.{◌≡◌, refl, sym, ap, ◌∙◌}
use Prim.Native.Nat.{ℕ, ◌<◌}
use native.Mathlib.Omega.{arith}
use lib.ListN.{length}
use lib.Ieee.{binary64}
use borrow.Author.Rules.{rules}
use Rattle.base.proofs.Iterate.{iterate_none, iterate_more}
use Rattle.factors.specs.Factor.{FactorValues, take_pivot}
use Rattle.reducing.specs.Lent.{pattern_of}
use Rattle.reducing.proofs.FitLaws.{has_split, has_end, upper_ends}
use Rattle.reducing.proofs.Joined.{pivot_taken}
use Rattle.reducing.proofs.unchecked.take_lower.Goals as goal

pub loop-e-init : goal.loop-e-init
loop-e-init g c = (refl, refl, search rules, sym (iterate_none _ _ _ _ (search rules)))

pub upper_first-first-requires : goal.upper_first-first-requires
upper_first-first-requires g c =
    -- entry e is one of the columns
    let within : c.loop-e.e < length c.args.columns.now = omega (arith, c.requires.4) in
    (within, has_split c.requires.0 _ within)

pub upper_end-last-requires : goal.upper_end-last-requires
upper_end-last-requires g c =
    -- entry e is one of the columns
    let within : c.loop-e.e < length c.args.columns.now = omega (arith, c.requires.4) in
    (within, has_end c.requires.0 _ within)

pub take_pivot-requires : goal.take_pivot-requires
take_pivot-requires g c =
    -- entry e is one of the columns
    let within : c.loop-e.e < length c.args.columns.now = omega (arith, c.requires.4) in
    let l = c.loop-e in
    let below = within in
    let ends = upper_ends c.requires.0 l.e below _ _ c.upper_first-first.ensures c.upper_end-last.ensures in
    (rw (l.invariant.0, l.invariant.1) c.requires.1, below, ends.0, ends.1)

pub loop-e-preserved : goal.loop-e-preserved
loop-e-preserved g c =
    let a = c.args in
    let l = c.loop-e in
    let call = c.take_pivot in
    let f : ℕ → FactorValues → FactorValues = take_pivot binary64 g.S.Size.DIM (pattern_of a.offsets.now a.columns.now a.splits.now) a.i in
    let turn = pivot_taken binary64 g.S.Size.DIM a.offsets.now a.columns.now a.splits.now a.i l.e _ _ c.upper_first-first.ensures c.upper_end-last.ensures _ _ (call.ensures a.offsets.now a.splits.now c.requires.2) in
    (call.auto.diagonal ∙ l.invariant.0, call.auto.values ∙ l.invariant.1, omega (arith, l.invariant.2), turn ∙ ap (f l.e) l.invariant.3 ∙ sym (iterate_more f _ l.e _ l.invariant.2))

pub returns : goal.returns
returns g c =
    let e : c.loop-e.e ≡ c.args.end = omega arith in
    rw e at c.loop-e.invariant.3
