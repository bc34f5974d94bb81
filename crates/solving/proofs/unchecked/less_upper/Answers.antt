-- `unchecked::less_upper` meets its promise: the first entry is taken away, and then the others.
-- Assumes nothing.
use mathlib.Core.Path.{◌≡◌, sym, ap, ◌∙◌}
use mathlib.Core.List.{List}
use Prim.Native.Nat.{ℕ, ◌+◌, ◌≤◌}
use native.Mathlib.Omega.{arith}
use lib.ListN.{length, drop}
use lib.Ieee.{Float, binary64}
use Rattle.solving.specs.Steps.{less_product, less_part}
use Rattle.solving.proofs.StepLaws.{none_is, rest_is, upper_is}
use Rattle.solving.proofs.FitLaws.{without_first, entry_stored}
use Rattle.solving.proofs.unchecked.less_upper.Goals as goal

pub returns-then-part-eq0 : goal.returns-then-part-eq0
returns-then-part-eq0 g c = let a = c.args in sym (none_is binary64 g.S.Size.DIM a.part.now a.first a.values.now a.x.now (g.S.Row.Values.list a.t) c.if-part-eq0.true)

pub less_beside-left-requires : goal.less_beside-left-requires
less_beside-left-requires g c =
    -- there is a first entry
    let some : 1 ≤ length c.args.part.now = omega arith in
    let here : c.args.first + 0 ≡ c.args.first = omega arith in
    (rw here at (entry_stored c.requires.0 0 some), rw c.wide.ensures (c.requires.0.seen 0 some), c.requires.1)

pub less_part-requires : goal.less_part-requires
less_part-requires g c =
    -- there is a first entry
    let some : 1 ≤ length c.args.part.now = omega arith in
    rw (rest_is c.args.part.now) (without_first c.requires.0 some)

pub returns : goal.returns
returns g c =
    -- there is a first entry
    let some : 1 ≤ length c.args.part.now = omega arith in
    let a = c.args in
    let rest : List Float → List Float = less_part binary64 g.S.Size.DIM (drop 1 a.part.now) (a.first + 1) a.values.now a.x.now in
    c.less_part.ensures
    ∙ ap (λ (l : List ℕ). less_part binary64 g.S.Size.DIM l (a.first + 1) a.values.now a.x.now (g.S.Row.Values.list c.less_beside-left.result)) (rest_is a.part.now)
    ∙ ap rest (c.less_beside-left.ensures ∙ ap (λ (j : ℕ). less_product binary64 g.S.Size.DIM a.values.now a.first a.x.now j (g.S.Row.Values.list a.t)) c.wide.ensures)
    ∙ upper_is binary64 g.S.Size.DIM a.part.now a.first a.values.now a.x.now (g.S.Row.Values.list a.t) some
