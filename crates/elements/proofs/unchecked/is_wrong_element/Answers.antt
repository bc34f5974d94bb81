-- `unchecked::is_wrong_element` meets its promise: the nodes are counted first, then the values.
-- Assumes nothing.
use mathlib.Core.Path.{◌≡◌, sym, ◌∙◌}
use mathlib.Core.Bool.{false}
use native.Mathlib.Omega.{arith}
use Rattle.answers.specs.Limits.{nodes_out_of_range}
use Rattle.lent.proofs.DimLaws.{dim_of}
use Rattle.elements.proofs.CheckLaws.{pairs_most, element_most, nodes_wrong, nodes_unlike, values_decide}
use Rattle.elements.proofs.unchecked.is_wrong_element.Goals as goal

pub returns-then-out_of_range : goal.returns-then-out_of_range
returns-then-out_of_range g c =
    let a = c.args in
    nodes_wrong g.S.Size.DIM a.rows a.cols a.element (sym c.out_of_range.ensures ∙ c.if-out_of_range.true)

pub returns-then-cols-rows : goal.returns-then-cols-rows
returns-then-cols-rows g c =
    -- past the first test the nodes are few
    let few : nodes_out_of_range c.args.rows ≡ false = sym c.out_of_range.ensures ∙ c.if-out_of_range.false in
    let a = c.args in
    nodes_unlike g.S.Size.DIM a.rows a.cols a.element few c.if-cols-rows.true

pub overflow_mul-result : goal.overflow_mul-result
overflow_mul-result g c =
    -- past the first test the nodes are few
    let few : nodes_out_of_range c.args.rows ≡ false = sym c.out_of_range.ensures ∙ c.if-out_of_range.false in
    record { fits = omega (arith, pairs_most c.args.rows few) }

pub overflow_mul-result-2 : goal.overflow_mul-result-2
overflow_mul-result-2 g c =
    -- past the first test the nodes are few
    let few : nodes_out_of_range c.args.rows ≡ false = sym c.out_of_range.ensures ∙ c.if-out_of_range.false in
    rw c.block_size.ensures.square record { fits = omega (arith, element_most g.S.Size.DIM c.args.rows (dim_of g.met.S.Size.sizes) few) }

pub returns : goal.returns
returns g c =
    -- past the first test the nodes are few
    let few : nodes_out_of_range c.args.rows ≡ false = sym c.out_of_range.ensures ∙ c.if-out_of_range.false in
    let a = c.args in
    rw c.block_size.ensures.square (values_decide g.S.Size.DIM a.rows a.cols a.element few c.if-cols-rows.false)
