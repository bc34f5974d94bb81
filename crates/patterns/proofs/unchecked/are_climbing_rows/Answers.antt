-- `unchecked::are_climbing_rows` meets its promise: the part that is lent is the row, and the rows so far climb.
-- Assumes nothing.
use mathlib.Core.Path.{refl, sym}
use mathlib.Core.Bool.{Bool, cond}
use mathlib.Core.List.{List}
use Prim.Native.Nat.{ℕ}
use native.Mathlib.Omega.{arith}
use Rattle.patterns.specs.Pattern.{rows_of}
use Rattle.patterns.specs.Steps.{climbs, rows_climb}
use Rattle.patterns.proofs.RowLaws.{rows_more, rows_stop}
use Rattle.patterns.proofs.unchecked.are_climbing_rows.Goals as goal

-- what is asked of each row
abbrev row_climbs_as : Bool → ℕ → ℕ → List ℕ → Bool
row_climbs_as refused n i row = climbs n (cond refused i n) 0 row

pub returns-then-not-is_climbing : goal.returns-then-not-is_climbing
unfolding rows_climb
returns-then-not-is_climbing c =
    let a = c.args in
    sym (rows_stop (row_climbs_as a.refused (rows_of a.offsets.now)) a.offsets.now a.columns.now c.loop-i.i _ _ _ refl refl
    (cc)
    _ (omega arith) c.if-not-is_climbing.true)

pub loop-i-preserved : goal.loop-i-preserved
unfolding rows_climb
loop-i-preserved c =
    let a = c.args in
    rows_more (row_climbs_as a.refused (rows_of a.offsets.now)) a.offsets.now a.columns.now c.loop-i.i _ _ _ refl refl
    (cc)
    c.loop-i.invariant c.if-not-is_climbing.false
