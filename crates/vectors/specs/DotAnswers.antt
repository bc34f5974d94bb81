-- What a dot product answers beside its number: its values, and which these are.
-- Definitions only.
use Rattle.std.specs.Prelude.{Ok, Err}
use Rattle.answers.specs.Numbers.{AnswerOf, number_of}
use Rattle.std.specs.Prelude.{◌≡◌, List, [], ◌∷◌, ℕ, Float}
use Rattle.answers.specs.Numbers.{refusal_values}
use Rattle.answers.specs.Checks.{Check, first_of}
use Rattle.answers.specs.Promise.{after}

-- its values: the sum, or what a refusal carries
abbrev pub dot_values : AnswerOf Float → List Float × List ℕ
dot_values (Ok x) = (x ∷ [], [])
dot_values (Err why) = ([], refusal_values why)

-- The number is that of the first check that holds, and the sum is there if none does.
pub record Dotted (checks : List Check) (sum : Float) (result : AnswerOf Float) : Type 0 where
  pub number : number_of result ≡ first_of checks
  pub values : dot_values result ≡ after checks (sum ∷ [], []) ([], [])
