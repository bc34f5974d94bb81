-- The sum that a dot product's entry point answers, from the promise of the call.
-- Assumes nothing.
use mathlib.Core.Path.{◌≡◌, refl, ap, ◌∙◌}
use mathlib.Core.List.{List, [], ◌∷◌}
use mathlib.Core.Bool.{Bool, true, false, cond}
use Prim.Native.Nat.{ℕ}
use lib.ListN.{get_or}
use lib.Ieee.{Float, Format}
use Rattle.std.specs.Prelude.{Ok, Err}
use Rattle.answers.specs.Numbers.{AnswerOf, number_of}
use Rattle.answers.specs.Checks.{Check, none_holds}
use Rattle.blocks.specs.Block.{plus_zero}
use Rattle.vectors.specs.DotAnswers.{dot_values, Dotted}
use Rattle.outcomes.specs.Sums.{sum_of, FinishedSum}
use Rattle.outcomes.specs.declared.Summed.{Summed}

-- an answer's sum is the value that it has, or +0 where it has none
of_values : (f : Format) (dot : AnswerOf Float) → sum_of f dot ≡ get_or (dot_values dot).0 0 (plus_zero f)
of_values f (Ok x) = refl
of_values f (Err why) = refl

picked : (f : Format) (sum : Float) (t : Bool) → get_or (cond {A = List Float × List ℕ} t (sum ∷ [], []) ([], [])).0 0 (plus_zero f) ≡ cond t sum (plus_zero f)
picked f sum true = refl
picked f sum false = refl

pub finished_sum : (f : Format) (checks : List Check) (sum : Float) (dot : AnswerOf Float) (r : Summed) → Dotted checks sum dot
    → r.number ≡ number_of dot → r.row ≡ 0 → r.sum ≡ sum_of f dot → FinishedSum f checks sum r
finished_sum f checks sum dot r given number row is =
    record {
      number = number ∙ given.number;
      row = row;
      sum_is = is ∙ of_values f dot ∙ ap (λ (v : List Float × List ℕ). get_or v.0 0 (plus_zero f)) given.values ∙ picked f sum (none_holds checks);
    }
