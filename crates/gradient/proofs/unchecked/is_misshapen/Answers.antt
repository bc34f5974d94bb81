-- `unchecked::is_misshapen` meets its promise: each return is what the lengths say.
-- Assumes nothing.
use mathlib.Core.Path.{sym, ◌∙◌}
use Rattle.advancing.proofs.CheckLaws.{as_factor}
use Rattle.gradient.proofs.unchecked.is_misshapen.Goals as goal

pub returns-then-is_wrong_factor : goal.returns-then-is_wrong_factor
returns-then-is_wrong_factor g c =
    let a = c.args in
    rw (sym (as_factor g.S.Size.DIM a.rows a.columns a.diagonal a.values) ∙ sym c.is_wrong_factor.ensures ∙ c.if-is_wrong_factor.true)

pub returns-then-are_wrong_vectors : goal.returns-then-are_wrong_vectors
returns-then-are_wrong_vectors g c =
    let a = c.args in
    rw (
      sym (as_factor g.S.Size.DIM a.rows a.columns a.diagonal a.values) ∙ sym c.is_wrong_factor.ensures ∙ c.if-is_wrong_factor.false,
      sym c.are_wrong_vectors.ensures ∙ c.if-are_wrong_vectors.true,
    )

pub returns : goal.returns
returns g c =
    let a = c.args in
    rw (
      sym (as_factor g.S.Size.DIM a.rows a.columns a.diagonal a.values) ∙ sym c.is_wrong_factor.ensures ∙ c.if-is_wrong_factor.false,
      sym c.are_wrong_vectors.ensures ∙ c.if-are_wrong_vectors.false,
    )
