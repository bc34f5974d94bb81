-- What the number 0 says of a call: none of its checks holds.
-- Assumes nothing.
use mathlib.Core.Path.{◌≡◌}
use mathlib.Core.Bool.{true, false, not}
use mathlib.Core.List.{List, [], ◌∷◌}
use borrow.Author.Tests.{not-true}
use Rattle.base.proofs.All.{and_left, and_right}
use Rattle.answers.specs.Checks.{Check, ◌when◌, first_of, none_holds}
use Rattle.answers.specs.Promise.{names}
use Rattle.answers.proofs.EndLaws.{none_of_zero}

-- each condition of a list fails
abbrev pub Fails : List Check → Type 0
Fails [] = Unit
Fails ((number when holds) ∷ later) = (holds ≡ false) × Fails later

each_fails : (checks : List Check) → none_holds checks ≡ true → Fails checks
each_fails [] none = tt
each_fails ((number when holds) ∷ later) none =
    (not-true holds (and_left (not holds) (none_holds later) none), each_fails later (and_right (not holds) (none_holds later) none))

pub zero_fails : (checks : List Check) → names 0 checks ≡ false → first_of checks ≡ 0 → Fails checks
zero_fails checks unnamed zero_is = each_fails checks (none_of_zero checks unnamed zero_is)
