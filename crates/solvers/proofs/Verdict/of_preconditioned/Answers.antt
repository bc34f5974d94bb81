-- `Verdict::of_preconditioned` meets its promise: each return is what 01 says of the count.
-- Assumes nothing.
use mathlib.Core.Path.{◌≡◌}
use Prim.Native.Nat.{◌+◌}
use native.Mathlib.Omega.{arith}
use borrow.Author.Tests.{eq-eqb, ne_eqb}
use Rattle.solvers.proofs.Verdict.of_preconditioned.Goals as goal

pub returns-then-count-eq-EMPTY : goal.returns-then-count-eq-EMPTY
returns-then-count-eq-EMPTY c = rw (eq-eqb _ _ c.if-count-eq-EMPTY.true)

pub returns-then-count-lt-PAST_LIMIT : goal.returns-then-count-lt-PAST_LIMIT
returns-then-count-lt-PAST_LIMIT c = rw (ne_eqb _ _ c.if-count-eq-EMPTY.false, ne_eqb _ _ (λ (e : c.args.count ≡ c.args.limit + 2). omega (arith, e, c.if-count-lt-PAST_LIMIT.true)))

pub returns-then-count-limit : goal.returns-then-count-limit
returns-then-count-limit c =
    let a = c.args in
    let e : a.count ≡ a.limit + 2 = omega (arith, c.if-count-limit.true, c.if-count-lt-PAST_LIMIT.false) in
    rw (ne_eqb _ _ c.if-count-eq-EMPTY.false, eq-eqb _ _ e)

pub returns : goal.returns
returns c =
    let a = c.args in
    rw (ne_eqb _ _ c.if-count-eq-EMPTY.false, ne_eqb _ _ (λ (e : a.count ≡ a.limit + 2). c.if-count-limit.false (omega (arith, e))))
