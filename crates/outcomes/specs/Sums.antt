-- What the entry point of a dot product promises: its number, no row, and the sum, +0 where the call is refused.
-- Definitions only.
use Rattle.std.specs.Prelude.{Ok, Err}
use Rattle.answers.specs.Numbers.{AnswerOf}
use Rattle.std.specs.Prelude.{◌≡◌, List, Float}
use Rattle.std.specs.Float.{Format}
use Rattle.answers.specs.Checks.{Check, first_of}
use Rattle.answers.specs.Promise.{after}
use Rattle.blocks.specs.Block.{plus_zero}
use Rattle.outcomes.specs.declared.Summed.{Summed}

-- the sum of an answer, +0 of a refusal
abbrev pub sum_of : Format → AnswerOf Float → Float
sum_of f (Ok x) = x
sum_of f (Err why) = plus_zero f

pub record FinishedSum (f : Format) (checks : List Check) (sum : Float) (summed : Summed) : Type 0 where
  pub number : summed.number ≡ first_of checks
  pub row : summed.row ≡ 0
  pub sum_is : summed.sum ≡ after checks sum (plus_zero f)
