-- `dot` meets its promise: refused, or the sum.
-- Assumes nothing.
use mathlib.Core.Path.{refl, sym}
use native.Mathlib.Omega.{arith}
use lib.ListN.{length}
use Rattle.std.proofs.Common.{rules}
use Rattle.vectors.proofs.CheckLaws.{pair_lengths}
use Rattle.vectors.proofs.DotLaws.{summed, refused_dot}
use Rattle.vectors.proofs.dot.Goals as goal

pub returns-in_err-check_pair : goal.returns-in_err-check_pair
returns-in_err-check_pair g c = refused_dot _ _ refl _ _ (search rules) c.in_err-check_pair.ensures

pub dot-requires : goal.dot-requires
dot-requires g c =
    let a = c.args in
    omega (arith, c.requires, pair_lengths a.n g.S.Size.DIM (length a.v0.now) (length a.v1.now) (sym c.in_ok-check_pair.ensures))

pub returns : goal.returns
returns g c = summed _ _ refl c.in_ok-check_pair.ensures _ c.dot.ensures
