-- The end of a call, told as that of its entry point.
-- Assumes nothing.
use mathlib.Core.Path.{◌≡◌, ◌∙◌}
use mathlib.Core.List.{List}
use Prim.Native.Nat.{ℕ}
use Rattle.answers.specs.Numbers.{Answer}
use Rattle.answers.specs.Numbers.{number_of}
use Rattle.answers.specs.Checks.{Check}
use Rattle.answers.specs.Promise.{Ends}
use Rattle.outcomes.specs.Calls.{Finished}

pub finished_call : {A : Type 0} (checks : List Check) (answer : Answer) (number : ℕ) (new old left : A) → Ends checks answer new old left → number ≡ number_of answer
    → Finished checks number new old left
finished_call checks answer number new old left end is = record { first = is ∙ end.number; lent = end.lent }
