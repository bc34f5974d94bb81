-- `root::floor_root` meets its contract. The invariant: root² + left with the digits not brought down yet, rest, is a * 4 ^ turn, in units of 2 ^ 54, and left is at most 2 * root.
-- A turn is `turn_holds` of `proofs/Turns.antt`. Assumes nothing.
use mathlib.Core.Path.{◌≡◌}
use Prim.Native.Nat.{◌+◌, ◌*◌}
use native.Mathlib.Omega.{arith}
use borrow.Author.Rules.{rules}
use Rattle.root.proofs.Turns.{turn_holds, at_end, two_bound, more_two}
use Rattle.root.proofs.floor_root.Goals as goal

pub loop-turn-preserved : goal.loop-turn-preserved
loop-turn-preserved c =
    let l = c.loop-turn in
    let d = c.next_digit in
    let s = turn_holds c.args.a l.root l.left l.rest l._turn d.result c.next_left-left.result l.invariant.5 l.invariant.3 l.invariant.4 d.ensures.0 c.next_left-left.ensures in
    (search rules, two_bound (l._turn + 1) (omega arith), omega (arith, more_two l._turn, d.ensures.1), s.0, omega arith, s.1)

pub returns : goal.returns
returns c =
    let l = c.loop-turn in
    let e : l._turn ≡ 53 = omega arith in
    (record { whole = at_end c.args.a (l.root * l.root + l.left) l.rest (rw e at l.invariant.5) l.invariant.4; small = search rules }, omega arith)
