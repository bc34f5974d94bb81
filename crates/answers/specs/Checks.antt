-- The order of checks as one list: a call's number is that of the first check whose condition holds, and 0 if none does.
-- Definitions only.
use Rattle.std.specs.Prelude.{List, [], ◌∷◌, Bool, true, false, not, ◌&&◌, cond, ℕ, eqb}

infixl 20 ◌when◌
-- a number, and the condition under which a call refuses with it
pub data Check : Type 0 where
  ◌when◌ : ℕ → Bool → Check

-- the number that a list of checks, in checking order, answers with
abbrev pub first_of : List Check → ℕ
first_of [] = 0
first_of ((number when holds) ∷ later) = cond holds number (first_of later)

-- whether no condition of a list holds
abbrev pub none_holds : List Check → Bool
none_holds [] = true
none_holds ((number when holds) ∷ later) = not holds && none_holds later

-- the table's numbers, from top to bottom: the order of checking
abbrev pub order : List ℕ
order = 1 ∷ 10 ∷ 2 ∷ 3 ∷ 11 ∷ 6 ∷ 7 ∷ 8 ∷ 5 ∷ 4 ∷ 9 ∷ []

-- whether the numbers of a list of checks come in the order of a table
abbrev pub in_order : List ℕ → List Check → Bool
in_order table [] = true
in_order [] (check ∷ checks) = false
in_order (k ∷ table) ((number when holds) ∷ checks) =
    cond (eqb k number) (in_order table checks) (in_order table ((number when holds) ∷ checks))
