-- `root::floor_root` meets its contract. The invariant: root² + left with the digits not brought down yet, rest, is a * 4 ^ turn, in units of 2 ^ 54, and left is at most 2 * root.
-- A turn is `turn_holds` of `proofs/Turns.antt`. Assumes nothing.
use mathlib.Core.Path.{◌≡◌}
use Prim.Native.Nat.{◌+◌, ◌*◌, ◌^◌, ◌≤◌, ◌<◌}
use Rattle.root.proofs.floor_root.Given as goal

abbrev pub invariant-loop-turn : goal.invariant-loop-turn
invariant-loop-turn l =
    (l._turn ≤ 53) × (2 ^ l._turn ≤ 2 ^ 53) × (l.root < 2 ^ l._turn) × (l.left ≤ 2 * l.root) × (l.rest < 2 ^ 54) × ((l.root * l.root + l.left) * 2 ^ 54 + l.rest ≡ l.a * 4 ^ l._turn)
