-- `decompose` meets its promise: at 1, 2, 3 it is the call of the crate `decompose`, and at any other N it is refused.
-- Assumes nothing.
use mathlib.Core.Path.{refl}
use lib.Ieee.{binary64}
use Rattle.reducing.specs.Lent.{pattern_of, factor_of}
use Rattle.numbered_factors.proofs.FactoredLaws.{at_dim, factored_at_no_dim}
use Rattle.numbered_factors.proofs.decompose.Goals as goal

pub returns-in-1 : goal.returns-in-1
returns-in-1 c =
    let a = c.args in
    rw c.in-1.is
    (at_dim binary64 1 (pattern_of a.offsets.now a.columns.now a.splits.now) (factor_of a.diagonal.now a.values.now) refl _ _ c.decompose.ensures)

pub returns-in-2 : goal.returns-in-2
returns-in-2 c =
    let a = c.args in
    rw c.in-2.is
    (at_dim binary64 2 (pattern_of a.offsets.now a.columns.now a.splits.now) (factor_of a.diagonal.now a.values.now) refl _ _ c.decompose-in-2.ensures)

pub returns-in-3 : goal.returns-in-3
returns-in-3 c =
    let a = c.args in
    rw c.in-3.is
    (at_dim binary64 3 (pattern_of a.offsets.now a.columns.now a.splits.now) (factor_of a.diagonal.now a.values.now) refl _ _ c.decompose-in-3.ensures)

pub returns-in_default : goal.returns-in_default
returns-in_default c =
    let a = c.args in
    let other = c.in_default.in_default-own.rest in
    factored_at_no_dim binary64 a.dim other.0.0.1 other.0.1 other.1 (pattern_of a.offsets.now a.columns.now a.splits.now) (factor_of a.diagonal.now a.values.now) c.refusal.result _ _
    c.refusal.ensures
