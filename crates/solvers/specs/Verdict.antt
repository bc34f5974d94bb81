-- Document 01's pan verdict: "Answer of a solve: count, last history number (+0 if none), verdict".
-- Definitions only.
use Rattle.std.specs.Prelude.{List, cond, ℕ, ◌+◌, ◌-◌, eqb, length, get_or, Float}
use Rattle.std.specs.Float.{Format}
use Rattle.std.specs.Float.Ieee.{lt}
use Rattle.blocks.specs.Block.{plus_zero}
use Rattle.solvers.specs.declared.Verdict.{Verdict}
use Rattle.solvers.specs.declared.Verdict.TheVariants.{Empty, Settled, Unsettled}

-- "Preconditioned: count 1 is Empty, limit + 2 is Unsettled, else Settled"
abbrev pub preconditioned_verdict : ℕ → ℕ → Verdict
preconditioned_verdict limit count = cond (eqb count 1) Empty (cond (eqb count (limit + 2)) Unsettled Settled)

-- "Plain: count 0 is Empty; else Settled if the last ratio is below the tolerance, else Unsettled"
abbrev pub plain_verdict : Float → ℕ → Float → Verdict
plain_verdict tolerance count last = cond (eqb count 0) Empty (cond (lt last tolerance) Settled Unsettled)

-- the last number of a history, +0 if it has none
abbrev pub last_of : Format → List Float → Float
last_of f history = get_or history (length history - 1) (plus_zero f)
