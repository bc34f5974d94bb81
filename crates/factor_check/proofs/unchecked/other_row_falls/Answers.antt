-- `unchecked::other_row_falls` meets its promise: a row without columns, one that ends with the columns, or any other.
-- Assumes nothing.
use mathlib.Core.Logic.{⊎_elim}
use Prim.Native.Nat.{◌<◌}
use native.Mathlib.Nat.{eq-or-lt_of_le}
use native.Mathlib.Omega.{arith}
use borrow.Author.Rules.{rules}
use Rattle.factor_check.specs.Steps.{Apart}
use Rattle.factor_check.proofs.RowLaws.{empty_right, final_right, row_right_lem}
use Rattle.factor_check.proofs.unchecked.other_row_falls.Goals as goal

pub returns-then-to-columns : goal.returns-then-to-columns
returns-then-to-columns c = λ h. absurd (omega (arith, h))

pub returns-then-not-is_apart : goal.returns-then-not-is_apart
returns-then-not-is_apart c = λ h. absurd (omega (arith, h))

pub returns-then-from-to : goal.returns-then-from-to
returns-then-from-to c =
    -- what the split's test has shown
    let apart : (let a = c.args in Apart a.own a.from a.split a.to a.columns.now) = c.is_apart.ensures c.if-not-is_apart.false in
    λ h. let a = c.args in empty_right a.n a.own a.from a.split a.to a.columns.now apart (search rules) c.if-from-to.true

pub overflow_sub-to : goal.overflow_sub-to
overflow_sub-to c =
    -- what the split's test has shown
    let apart : (let a = c.args in Apart a.own a.from a.split a.to a.columns.now) = c.is_apart.ensures c.if-not-is_apart.false in
    -- past the third test there are columns
    let some : c.args.from < c.args.to = let r = apart in ⊎_elim (λ e. absurd (c.if-from-to.false e)) (λ less. less) (eq-or-lt_of_le (omega (arith, r.from, r.to))) in
    omega (arith, some)

pub offset_bounds-columns-to : goal.offset_bounds-columns-to
offset_bounds-columns-to c = search rules

pub bounds-columns-to : goal.bounds-columns-to
bounds-columns-to c =
    -- what the split's test has shown
    let apart : (let a = c.args in Apart a.own a.from a.split a.to a.columns.now) = c.is_apart.ensures c.if-not-is_apart.false in
    -- past the third test there are columns
    let some : c.args.from < c.args.to = let r = apart in ⊎_elim (λ e. absurd (c.if-from-to.false e)) (λ less. less) (eq-or-lt_of_le (omega (arith, r.from, r.to))) in
    omega (arith, some)

pub returns-then-columns-to : goal.returns-then-columns-to
returns-then-columns-to c = λ h. absurd (omega (arith, h))

pub returns-then-to-columns-2 : goal.returns-then-to-columns-2
returns-then-to-columns-2 c =
    -- what the split's test has shown
    let apart : (let a = c.args in Apart a.own a.from a.split a.to a.columns.now) = c.is_apart.ensures c.if-not-is_apart.false in
    -- past the third test there are columns
    let some : c.args.from < c.args.to = let r = apart in ⊎_elim (λ e. absurd (c.if-from-to.false e)) (λ less. less) (eq-or-lt_of_le (omega (arith, r.from, r.to))) in
    λ h.
    let a = c.args in
    final_right a.n a.own a.from a.split a.to a.columns.now apart some c.if-columns-to.false c.if-to-columns-2.true

pub overflow_sub-to-2 : goal.overflow_sub-to-2
overflow_sub-to-2 c =
    -- what the split's test has shown
    let apart : (let a = c.args in Apart a.own a.from a.split a.to a.columns.now) = c.is_apart.ensures c.if-not-is_apart.false in
    -- past the third test there are columns
    let some : c.args.from < c.args.to = let r = apart in ⊎_elim (λ e. absurd (c.if-from-to.false e)) (λ less. less) (eq-or-lt_of_le (omega (arith, r.from, r.to))) in
    omega (arith, some)

pub bounds-columns-to-2 : goal.bounds-columns-to-2
bounds-columns-to-2 c = search rules

pub bounds-columns-to-3 : goal.bounds-columns-to-3
bounds-columns-to-3 c = search rules

pub returns : goal.returns
returns c =
    -- what the split's test has shown
    let apart : (let a = c.args in Apart a.own a.from a.split a.to a.columns.now) = c.is_apart.ensures c.if-not-is_apart.false in
    -- past the third test there are columns
    let some : c.args.from < c.args.to = let r = apart in ⊎_elim (λ e. absurd (c.if-from-to.false e)) (λ less. less) (eq-or-lt_of_le (omega (arith, r.from, r.to))) in
    λ h.
    let a = c.args in
    row_right_lem a.n a.own a.from a.split a.to a.columns.now apart some c.if-columns-to.false _ (search rules) c.one_if.ensures
