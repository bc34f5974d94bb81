-- `numbered::add_scaled_vector` meets its promise: at 1, 2, 3 it is the call of `vectors`, and at any other N it is refused.
-- Assumes nothing.
use mathlib.Core.Path.{refl}
use mathlib.Core.List.{[], ◌∷◌}
use lib.ListN.{length}
use Rattle.vector_bytes.specs.Checks.{words}
use Rattle.vector_bytes.proofs.NumberedLaws.{at_pair, at_no_dim}
use Rattle.vector_bytes.proofs.numbered.add_scaled_vector.Goals as goal

pub returns-in-1 : goal.returns-in-1
returns-in-1 c =
    let a = c.args in
    at_pair a.n a.dim 1 c.in-1.is refl _ _ _ _ (length a.u.now) (length a.p.now) c.add_scaled_vector.ensures

pub returns-in-2 : goal.returns-in-2
returns-in-2 c =
    let a = c.args in
    at_pair a.n a.dim 2 c.in-2.is refl _ _ _ _ (length a.u.now) (length a.p.now) c.add_scaled_vector-in-2.ensures

pub returns-in-3 : goal.returns-in-3
returns-in-3 c =
    let a = c.args in
    at_pair a.n a.dim 3 c.in-3.is refl _ _ _ _ (length a.u.now) (length a.p.now) c.add_scaled_vector-in-3.ensures

pub returns-in_default : goal.returns-in_default
returns-in_default c =
    let a = c.args in
    let other = c.in_default.in_default-own.rest in
    at_no_dim a.n a.dim other.0.0.1 other.0.1 other.1 (words 1 (length a.u.now) ∷ words 1 (length a.p.now) ∷ []) _ c.refusal.ensures _ _
