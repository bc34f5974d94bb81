-- `unchecked::encode_if_done` meets its promise: the bytes are written if the number is 0, and stay otherwise.
-- Assumes nothing.
use mathlib.Core.Path.{sym, ◌∙◌}
use borrow.Author.Tests.{eq-eqb, ne_eqb}
use Rattle.answers.specs.Numbers.{number_of}
use Rattle.matrix_bytes.proofs.unchecked.encode_if_done.Goals as goal

pub returns-then-number-eq0 : goal.returns-then-number-eq0
returns-then-number-eq0 c = rw (eq-eqb (number_of c.args.answer) 0 (sym c.number.ensures ∙ c.if-number-eq0.true)) c.encode.ensures

pub returns-else-number-eq0 : goal.returns-else-number-eq0
returns-else-number-eq0 c = rw (ne_eqb (number_of c.args.answer) 0 (λ z. c.if-number-eq0.false (c.number.ensures ∙ z)))
