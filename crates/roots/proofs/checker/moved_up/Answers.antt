-- `roots::checker::moved_up` meets its contract. The invariant: moved is digits * 2 ^ k, below 2 ^ 55.
-- Assumes nothing.
use Rattle.std.proofs.Common.{◌≡◌, ℕ, ◌*◌, ◌^◌, sym, ap, ◌∙◌, arith, rules}
use Rattle.roots.proofs.CheckerLaws.{one_more, moved_whole, moved_past}
use Rattle.roots.proofs.checker.moved_up.Goals as goal

pub returns-then-moved : goal.returns-then-moved
returns-then-moved c =
    let l = c.loop-k in
    let a = c.args in
    (moved_past a.digits a.places l._k c.loop-k-test.true (omega arith), search rules)

pub loop-k-preserved : goal.loop-k-preserved
loop-k-preserved c =
    let l = c.loop-k in
    let digits = c.args.digits in
    (search rules, search rules, ap (λ (x : ℕ). x * 2) l.invariant.2 ∙ sym (one_more digits l._k))

pub returns : goal.returns
returns c =
    let l = c.loop-k in
    let a = c.args in
    let e : l._k ≡ a.places = omega arith in
    let m : l.moved ≡ a.digits * 2 ^ a.places = rw e at l.invariant.2 in
    (m ∙ moved_whole a.digits a.places (omega arith), search rules)
