-- `root::nearest_root` meets its contract, by the laws of `proofs/Rounds.antt`.
-- Assumes nothing.
use Prim.Native.Nat.{◌*◌, ◌^◌}
use native.Mathlib.Omega.{arith}
use Rattle.root.proofs.Rounds.{rounds_up, rounds_down, root_reaches, no_carry}
use Rattle.root.proofs.nearest_root.Goals as goal

pub returns-then-floor : goal.returns-then-floor
returns-then-floor c =
    let a = c.args.a in
    let root = c.floor_root-floor.result.root in
    let left = c.floor_root-floor.result.left in
    let f = c.floor_root-floor.ensures.0 in
    let l = root_reaches (2 ^ 52) (a * 2 ^ 52) root left f (omega arith) in
    (rounds_up (a * 2 ^ 52) root left f (omega arith), omega arith, no_carry a root left f (omega arith) (omega arith) (omega arith))

pub returns-else-floor : goal.returns-else-floor
returns-else-floor c =
    let a = c.args.a in
    let root = c.floor_root-floor.result.root in
    let left = c.floor_root-floor.result.left in
    let f = c.floor_root-floor.ensures.0 in
    let l = root_reaches (2 ^ 52) (a * 2 ^ 52) root left f (omega arith) in
    (rounds_down (a * 2 ^ 52) root left f (omega arith) (omega arith), l, omega arith)
