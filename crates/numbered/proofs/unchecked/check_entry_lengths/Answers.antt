-- `unchecked::check_entry_lengths` meets its promise: at each N it is the check of that size.
-- Assumes nothing.
use native.Mathlib.Omega.{arith}
use mathlib.Core.Path.{◌≡◌}
use Rattle.numbered.proofs.unchecked.check_entry_lengths.Goals as goal

pub returns-in-1 : goal.returns-in-1
returns-in-1 c = rw c.in-1.is c.check_entry_lengths.ensures

pub returns-in-2 : goal.returns-in-2
returns-in-2 c = rw c.in-2.is c.check_entry_lengths-in-2.ensures

pub returns-in_default : goal.returns-in_default
returns-in_default c =
    let other = c.in_default.in_default-own.rest in
    let three : c.args.dim ≡ 3 = omega (arith, c.requires.least, c.requires.most, other) in
    rw three c.check_entry_lengths-in_default.ensures
