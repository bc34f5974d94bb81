-- `unchecked::are_rows_right` meets its promise: after i turns the first i rows are right, and the steps over their ends are counted.
-- Assumes nothing.
use mathlib.Core.Path.{◌≡◌, sym, ◌∙◌}
use native.Mathlib.Nat.{not-suc-le-zero}
use native.Mathlib.Omega.{arith}
use borrow.Author.Rules.{rules}
use borrow.Author.Tests.{eqb-true}
use Rattle.patterns.specs.Pattern.{rows_of}
use Rattle.factor_check.specs.Steps.{one_if, end_falls_at, RightRowAt}
use Rattle.factor_check.proofs.CountLaws.{count_none, count_more, count_most}
use Rattle.factor_check.proofs.RowLaws.{unsure, row_at, rows_more}
use Rattle.factor_check.proofs.unchecked.are_rows_right.Goals as goal

pub overflow_cast-n : goal.overflow_cast-n
overflow_cast-n c = record { fits = omega (arith) }

pub loop-i-init : goal.loop-i-init
loop-i-init c = (search rules, search rules, search rules, sym (count_none _), λ k h. absurd (not-suc-le-zero h))

pub returns-then-more-gt1 : goal.returns-then-more-gt1
returns-then-more-gt1 c = λ e. unsure e

pub overflow_add-count : goal.overflow_add-count
overflow_add-count c =
    let a = c.args in
    omega (arith, c.loop-i.invariant.3, count_most (end_falls_at a.offsets.now a.columns.now) c.loop-i.i, c.if-more-gt1.false)

pub loop-i-preserved : goal.loop-i-preserved
loop-i-preserved c =
    -- what is found of row i
    let found : (let a = c.args in
    (RightRowAt a.offsets.now a.columns.now a.splits.now c.loop-i.i) × (c.row_falls-more.result ≡ one_if (end_falls_at a.offsets.now a.columns.now c.loop-i.i))) = let a = c.args in
    row_at a.offsets.now a.columns.now a.splits.now c.loop-i.i _ _ _ _ _ c.loop-i.invariant.2
    c.wide-from.ensures c.wide-split.ensures c.wide-to.ensures
    (c.row_falls-more.ensures c.if-more-gt1.false) in
    let a = c.args in
    let p = end_falls_at a.offsets.now a.columns.now in (
      omega arith,
      search rules,
      search rules,
      omega (arith, c.loop-i.invariant.3, found.1, count_more p c.loop-i.i),
      rows_more (RightRowAt a.offsets.now a.columns.now a.splits.now) c.loop-i.i c.loop-i.invariant.4 found.0,
    )

pub returns : goal.returns
returns c = λ e.
    let a = c.args in
    let all : c.loop-i.i ≡ rows_of a.offsets.now = omega arith in
    record {
      each = rw all at c.loop-i.invariant.4;
      counted = sym (eqb-true _ _ e) ∙ rw all at c.loop-i.invariant.3;
    }
