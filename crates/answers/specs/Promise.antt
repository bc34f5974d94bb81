-- The promise of a call that is done, or refuses and leaves every lent word as it was.
-- Definitions only.
use Rattle.answers.specs.Numbers.{Answer}
use Rattle.std.specs.Prelude.{◌≡◌, List, [], ◌∷◌, Bool, false, cond, ◌||◌, ℕ, eqb}
use Rattle.answers.specs.Numbers.{number_of}
use Rattle.answers.specs.Checks.{Check, ◌when◌, first_of, none_holds}

-- what is lent holds the new words if no condition holds, and the old ones otherwise
abbrev pub after : {A : Type 0} → List Check → A → A → A
after checks new old = cond (none_holds checks) new old

-- The number is that of the first check that holds, and what is lent is as that says.
pub record Ends {A : Type 0} (checks : List Check) (answer : Answer) (new old left : A) : Type 0 where
  pub number : number_of answer ≡ first_of checks
  pub lent : left ≡ after checks new old

-- whether a list of checks has a check of this number
abbrev pub names : ℕ → List Check → Bool
names k [] = false
names k ((number when holds) ∷ later) = eqb number k || names k later
