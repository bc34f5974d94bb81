-- `numbered::dot` meets its promise: at 1, 2, 3 it is the call of `vectors`, and at any other N it is refused.
-- Assumes nothing.
use mathlib.Core.Path.{refl}
use mathlib.Core.List.{[], ◌∷◌}
use lib.ListN.{length}
use lib.Ieee.{binary64}
use Rattle.vector_bytes.specs.Checks.{words}
use Rattle.vector_bytes.proofs.NumberedLaws.{at_dot, dot_at_no_dim}
use Rattle.vector_bytes.proofs.numbered.dot.Goals as goal

pub returns-in-1 : goal.returns-in-1
returns-in-1 c =
    let a = c.args in
    at_dot binary64 a.v0.now a.v1.now a.n a.dim 1 (length a.v0.now) (length a.v1.now) c.in-1.is refl _ c.dot.ensures

pub returns-in-2 : goal.returns-in-2
returns-in-2 c =
    let a = c.args in
    at_dot binary64 a.v0.now a.v1.now a.n a.dim 2 (length a.v0.now) (length a.v1.now) c.in-2.is refl _ c.dot-in-2.ensures

pub returns-in-3 : goal.returns-in-3
returns-in-3 c =
    let a = c.args in
    at_dot binary64 a.v0.now a.v1.now a.n a.dim 3 (length a.v0.now) (length a.v1.now) c.in-3.is refl _ c.dot-in-3.ensures

pub returns-in_default : goal.returns-in_default
returns-in_default c =
    let a = c.args in
    let other = c.in_default.in_default-own.rest in
    dot_at_no_dim a.n a.dim other.0.0.1 other.0.1 other.1 (words 1 (length a.v0.now) ∷ words 1 (length a.v1.now) ∷ []) _ c.refusal.ensures _
