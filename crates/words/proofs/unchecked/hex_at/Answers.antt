-- `unchecked::hex_at` meets its contract. The invariant: the bytes before at + i are digits, and value is the number that they say.
-- Assumes nothing.
use mathlib.Core.Path.{refl}
use native.Mathlib.Omega.{arith}
use borrow.Author.Rules.{rules}
use Prim.Native.Nat.{◌+◌, ◌<◌}
use lib.ListN.{get_or}
use Rattle.words.specs.Text.{digit_value, all_digits, hex_value}
use Rattle.words.proofs.TextLaws.{sixteen_more, sixteen_bound, digits_more, hex_more, digits_stop}
use Rattle.words.proofs.unchecked.hex_at.Goals as goal

pub loop-i-init : goal.loop-i-init
unfolding all_digits hex_value
loop-i-init c = (search rules, search rules, refl, refl)

pub returns-in_err-d : goal.returns-in_err-d
returns-in_err-d c =
    let l = c.loop-i in
    let a = c.args in
    let d : 15 < digit_value (get_or a.line.now (a.at + l.i) 0) = omega (arith, c.in_err-d.ensures) in
    rw (digits_stop a.line.now a.at l.i 16 c.loop-i-test.true d) c.from_residual.ensures

pub overflow_mul-value : goal.overflow_mul-value
overflow_mul-value c = let g = c.in_ok-d.ensures in omega (arith, sixteen_bound c.loop-i.i c.loop-i-test.true)

pub overflow_add-value : goal.overflow_add-value
overflow_add-value c = omega (arith, sixteen_bound c.loop-i.i c.loop-i-test.true, c.in_ok-d.ensures)

pub loop-i-preserved : goal.loop-i-preserved
loop-i-preserved c =
    let l = c.loop-i in
    let a = c.args in
    let d = c.in_ok-d in (
      search rules,
      omega (arith, sixteen_more l.i),
      digits_more a.line.now a.at l.i d.d d.ensures.0 (omega arith) l.invariant.2,
      hex_more a.line.now a.at l.i d.d l.value d.ensures.0 l.invariant.3,
    )
