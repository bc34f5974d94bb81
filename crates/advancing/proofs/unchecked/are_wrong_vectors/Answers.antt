-- `unchecked::are_wrong_vectors` meets its promise: each return is what the lengths say.
-- Assumes nothing.
use native.Mathlib.Nat.{mul-le-mul_right}
use native.Mathlib.Omega.{arith}
use borrow.Author.Tests.{eq-eqb, ne_eqb}
use Rattle.advancing.proofs.unchecked.are_wrong_vectors.Goals as goal

pub overflow_mul-length : goal.overflow_mul-length
overflow_mul-length g c = rw c.DIM.ensures record { fits = omega (arith, mul-le-mul_right c.args.rows g.met.S.Size.sizes.most, c.requires) }

pub returns-then-r-length : goal.returns-then-r-length
returns-then-r-length g c = rw (ne_eqb _ _ (rw c.DIM.ensures at c.if-r-length.true))

pub returns-then-x-length : goal.returns-then-x-length
returns-then-x-length g c = rw (eq-eqb _ _ (rw c.DIM.ensures at c.if-r-length.false), ne_eqb _ _ (rw c.DIM.ensures at c.if-x-length.true))

pub returns-then-q-length : goal.returns-then-q-length
returns-then-q-length g c = rw (eq-eqb _ _ (rw c.DIM.ensures at c.if-r-length.false), eq-eqb _ _ (rw c.DIM.ensures at c.if-x-length.false), ne_eqb _ _ (rw c.DIM.ensures at c.if-q-length.true))

pub returns : goal.returns
returns g c = rw (c.DIM.ensures, eq-eqb _ _ (rw c.DIM.ensures at c.if-r-length.false), eq-eqb _ _ (rw c.DIM.ensures at c.if-x-length.false), eq-eqb _ _ (rw c.DIM.ensures at c.if-q-length.false))
