-- `unchecked::write_numbers` meets its promise: the numbers stand in the first words, and the bytes after them stay.
-- Assumes nothing.
use mathlib.Core.Path.{sym, ap, ◌∙◌}
use Prim.Native.Nat.{ℕ, ◌*◌}
use lib.Seq.{length-take-le}
use Rattle.solver_bytes.proofs.BackLaws.{numbers_over}
use Rattle.solver_bytes.proofs.unchecked.write_numbers.Goals as goal

pub slice_bounds-encode-end : goal.slice_bounds-encode-end
slice_bounds-encode-end c = sym (length-take-le _ _ c.requires.0)

pub slice_bounds-encode-end-3 : goal.slice_bounds-encode-end-3
slice_bounds-encode-end-3 c = sym (length-take-le _ _ c.requires.1)

pub encode-requires : goal.encode-requires
encode-requires c = length-take-le _ _ c.requires.1 ∙ ap (λ (k : ℕ). 8 * k) (sym (length-take-le _ _ c.requires.0))

pub returns : goal.returns
returns c = let a = c.args in numbers_over _ a.numbers.now a.history.now a.count c.requires.0 c.encode.ensures
