-- `unchecked::is_misshapen` meets its promise: each return is what the lengths say.
-- Assumes nothing.
use mathlib.Core.Path.{sym, ◌∙◌}
use borrow.Author.Tests.{eq-eqb, ne_eqb}
use Rattle.advancing.proofs.CheckLaws.{as_factor}
use Rattle.preconditioned_gradient.proofs.unchecked.is_misshapen.Goals as goal

pub returns-then-is_wrong_factor : goal.returns-then-is_wrong_factor
returns-then-is_wrong_factor g c =
    let a = c.args in
    rw (sym (as_factor g.S.Size.DIM a.rows a.entries a.a_diagonal a.a_values) ∙ sym c.is_wrong_factor.ensures ∙ c.if-is_wrong_factor.true)

pub returns-then-factor_rows-rows : goal.returns-then-factor_rows-rows
returns-then-factor_rows-rows g c =
    let a = c.args in
    rw (sym (as_factor g.S.Size.DIM a.rows a.entries a.a_diagonal a.a_values) ∙ sym c.is_wrong_factor.ensures ∙ c.if-is_wrong_factor.false, ne_eqb _ _ c.if-factor_rows-rows.true)

pub returns-then-is_wrong_factor-2 : goal.returns-then-is_wrong_factor-2
returns-then-is_wrong_factor-2 g c =
    let a = c.args in
    rw (
      sym (as_factor g.S.Size.DIM a.rows a.entries a.a_diagonal a.a_values) ∙ sym c.is_wrong_factor.ensures ∙ c.if-is_wrong_factor.false,
      eq-eqb _ _ c.if-factor_rows-rows.false,
      sym c.is_wrong_factor-2.ensures ∙ c.if-is_wrong_factor-2.true,
    )

pub returns-then-are_wrong_vectors : goal.returns-then-are_wrong_vectors
returns-then-are_wrong_vectors g c =
    let a = c.args in
    rw (
      sym (as_factor g.S.Size.DIM a.rows a.entries a.a_diagonal a.a_values) ∙ sym c.is_wrong_factor.ensures ∙ c.if-is_wrong_factor.false,
      eq-eqb _ _ c.if-factor_rows-rows.false,
      sym c.is_wrong_factor-2.ensures ∙ c.if-is_wrong_factor-2.false,
      sym c.are_wrong_vectors.ensures ∙ c.if-are_wrong_vectors.true,
    )

pub returns : goal.returns
returns g c =
    let a = c.args in
    rw (
      sym (as_factor g.S.Size.DIM a.rows a.entries a.a_diagonal a.a_values) ∙ sym c.is_wrong_factor.ensures ∙ c.if-is_wrong_factor.false,
      eq-eqb _ _ c.if-factor_rows-rows.false,
      sym c.is_wrong_factor-2.ensures ∙ c.if-is_wrong_factor-2.false,
      sym c.are_wrong_vectors.ensures ∙ c.if-are_wrong_vectors.false,
    )
