-- What a run leaves, as one record, and the numbers of its history.
-- Assumes nothing.
use mathlib.Core.Path.{◌≡◌, ap, ◌∙◌}
use mathlib.Core.List.{List}
use Prim.Native.Nat.{ℕ}
use lib.ListN.{length, take}
use lib.Ieee.{Float}
use Rattle.solvers.specs.Method.{Run}
use Rattle.solvers.specs.Promise.{lent_of, left_by}
use Rattle.advancing.specs.Steps.{Leaves}
use Rattle.advancing.proofs.OverLaws.{take_over}

module _ {t : Run} {words r x q p h : List Float} {count : ℕ} (left : Leaves t words r x q p h count) where
  -- the first words of the history are its numbers
  pub numbers_are : take count h ≡ t.history
  numbers_are =
      ap (λ (k : ℕ). take k h) left.of_count ∙ ap (take (length t.history)) left.of_history ∙ take_over t.history words

  pub lent_is : lent_of r x q p h ≡ left_by t words
  lent_is = rw (left.of_r, left.of_x, left.of_q, left.of_p, left.of_history)
