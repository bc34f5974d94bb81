-- `unchecked::less_lower` meets its promise: the others are taken away, and then the last entry.
-- Assumes nothing.
use mathlib.Core.Path.{◌≡◌, sym, ap, ◌∙◌}
use mathlib.Core.List.{List}
use Prim.Native.Nat.{ℕ, ◌+◌, ◌-◌}
use native.Mathlib.Omega.{arith}
use lib.ListN.{length, get_or, length-take}
use lib.Ieee.{Float, binary64}
use Rattle.solving.specs.Steps.{less_product}
use Rattle.solving.proofs.StepLaws.{none_is, lower_is}
use Rattle.solving.proofs.FitLaws.{without_last, entry_stored}
use Rattle.solving.proofs.unchecked.less_lower.Goals as goal

pub returns-then-part-eq0 : goal.returns-then-part-eq0
returns-then-part-eq0 g c = let a = c.args in sym (none_is binary64 g.S.Size.DIM a.part.now a.first a.values.now a.x.now (g.S.Row.Values.list a.t) c.if-part-eq0.true)

pub slice_bounds-less_part-end : goal.slice_bounds-less_part-end
slice_bounds-less_part-end g c = let part = c.args.part.now in omega (arith, length-take (length part - 1) part)

pub less_part-left-requires : goal.less_part-left-requires
less_part-left-requires g c =
    -- the last entry is one of the part
    let whole : (let part = c.args.part.now in (length part - 1) + 1 ≡ length part) = omega arith in
    without_last c.requires.0 _ whole

pub less_beside-requires : goal.less_beside-requires
less_beside-requires g c =
    let last = length c.args.part.now - 1 in
    (entry_stored c.requires.0 last (omega arith), rw c.wide.ensures (c.requires.0.seen last (omega arith)), c.requires.1)

pub returns : goal.returns
returns g c =
    -- the last entry is one of the part
    let whole : (let part = c.args.part.now in (length part - 1) + 1 ≡ length part) = omega arith in
    let a = c.args in
    let last = length a.part.now - 1 in
    let step : ℕ → List Float → List Float = λ j r. less_product binary64 g.S.Size.DIM a.values.now (a.first + last) a.x.now j r in
    c.less_beside.ensures
    ∙ ap (λ (j : ℕ). step j (g.S.Row.Values.list c.less_part-left.result)) c.wide.ensures
    ∙ ap (step (get_or a.part.now last 0)) c.less_part-left.ensures
    ∙ lower_is binary64 g.S.Size.DIM a.part.now a.first a.values.now a.x.now (g.S.Row.Values.list a.t) last whole
