-- `unchecked::are_four_fresh` meets its promise: four markings follow each other, and the first that is not fresh decides.
-- Assumes nothing.
use mathlib.Core.Path.{◌≡◌, refl}
use Prim.Native.Nat.{◌+◌}
use native.Mathlib.Omega.{arith}
use Rattle.patterns.proofs.MarkLaws.{marked_stops, marked_on, marked_to}
use Rattle.patterns.proofs.unchecked.are_four_fresh.Goals as goal

pub returns-then-not-is_next_fresh-3 : goal.returns-then-not-is_next_fresh-3
returns-then-not-is_next_fresh-3 c =
    let a = c.args in
    let e : (a.k + 1) + 1 ≡ a.k + 2 = omega arith in
    marked_stops
    (marked_on
    (marked_on c.is_next_fresh.ensures c.if-not-is_next_fresh.false c.is_next_fresh-2.ensures refl)
    c.if-not-is_next_fresh-2.false c.is_next_fresh-3.ensures e)
    c.if-not-is_next_fresh-3.true

pub returns : goal.returns
returns c =
    let a = c.args in
    let two : (a.k + 1) + 1 ≡ a.k + 2 = omega arith in
    let three : (a.k + 2) + 1 ≡ a.k + 3 = omega arith in
    let four : (a.k + 3) + 1 ≡ a.k + 4 = omega arith in
    marked_to
    (marked_on
    (marked_on
    (marked_on c.is_next_fresh.ensures c.if-not-is_next_fresh.false c.is_next_fresh-2.ensures refl)
    c.if-not-is_next_fresh-2.false c.is_next_fresh-3.ensures two)
    c.if-not-is_next_fresh-3.false c.is_next_fresh-4.ensures three) four
