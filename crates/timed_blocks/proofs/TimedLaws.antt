-- The counts of the benchmark's entry points: as many blocks as all slices have room for.
-- Assumes nothing.
use mathlib.Core.Path.{◌≡◌, refl, ap, ◌∙◌}
use mathlib.Core.Bool.{Bool, true, false, cond}
use Rattle.std.proofs.Common.{min}
use Rattle.std.proofs.Math.Nat.{min-eq_left, min-eq_right}
use Prim.Native.Nat.{ℕ, ◌*◌, ◌/◌, ◌≤◌, ◌<◌}
use lib.Dec.{ltb}
use borrow.Author.Tests.{ltb-true, ltb-false}
use native.Mathlib.Nat.{mul-le-mul_left, mul-div-le}
use native.Mathlib.Omega.{arith}
use Rattle.timed_blocks.specs.Timed.{lesser_of, Fitting}

-- what is at most a number of parts takes no more than there is
pub takes : (p r a : ℕ) → r ≤ a / p → p * r ≤ a
takes p r a few = omega (arith, mul-le-mul_left p few, mul-div-le a p)

-- the lesser of two numbers, by a test as in the clauses
pub lesser_is : (a b : ℕ) → min a b ≡ lesser_of a b
lesser_is a b = by_test (ltb a b) refl
  where
    by_test : (t : Bool) → ltb a b ≡ t → min a b ≡ cond t a b
    by_test true less =
        let h : a < b = ltb-true a b less in
        min-eq_left (omega (arith, h))
    by_test false more = min-eq_right (ltb-false a b more)

pub fits_all : (p a q b c r s : ℕ) → s ≡ min (b / q) (c / q) → r ≡ min (a / p) s → Fitting p a q b c r
fits_all p a q b c r s es er =
    record {
      is = er ∙ lesser_is (a / p) s ∙ ap (lesser_of (a / p)) (es ∙ lesser_is (b / q) (c / q));
      first = takes p r a (omega (arith, er));
      second = takes q r b (omega (arith, er, es));
      third = takes q r c (omega (arith, er, es));
    }
