-- `encode_if_run` meets its promise: the bytes are written if the number is 0 or 9, and stay otherwise.
-- Assumes nothing.
use mathlib.Core.Path.{sym, ◌∙◌}
use borrow.Author.Tests.{eq-eqb, ne_eqb}
use Rattle.answers.specs.Numbers.{number_of}
use Rattle.decompose_bytes.proofs.encode_if_run.Goals as goal

pub returns-then-number-eq0 : goal.returns-then-number-eq0
returns-then-number-eq0 c = rw (eq-eqb (number_of c.args.answer) 0 (sym c.number-number.ensures ∙ c.if-number-eq0.true)) c.encode.ensures

pub returns-then-number-eq9 : goal.returns-then-number-eq9
returns-then-number-eq9 c =
    let k = number_of c.args.answer in
    rw (ne_eqb k 0 (λ z. c.if-number-eq0.false (c.number-number.ensures ∙ z)), eq-eqb k 9 (sym c.number-number.ensures ∙ c.if-number-eq9.true)) c.encode-then-number-eq9.ensures

pub returns-else-number-eq9 : goal.returns-else-number-eq9
returns-else-number-eq9 c =
    let k = number_of c.args.answer in
    rw (ne_eqb k 0 (λ z. c.if-number-eq0.false (c.number-number.ensures ∙ z)), ne_eqb k 9 (λ z. c.if-number-eq9.false (c.number-number.ensures ∙ z)))
