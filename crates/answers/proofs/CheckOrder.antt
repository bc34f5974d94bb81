-- What an ordered list of checks means: the number is that of a check whose condition holds while no earlier one does, and 0 exactly if none holds.
-- Assumes nothing.
use mathlib.Core.Path.{◌≡◌, refl, ap}
use mathlib.Core.List.{List, [], ◌∷◌, ◌++◌}
use mathlib.Core.Bool.{true, false}
use mathlib.Core.Logic.{◌⊎◌, inl, inr, ⊎_elim}
use Prim.Native.Nat.{ℕ}
use native.Mathlib.Omega.{arith}
use Rattle.answers.specs.Checks.{Check, ◌when◌, first_of, none_holds, order, in_order}
use Rattle.answers.specs.Limits.{vector_checks}

-- a check that holds decides, if none before it does
pub first_holds : (earlier : List Check) (number : ℕ) (later : List Check) → none_holds earlier ≡ true
    → first_of (earlier ++ ((number when true) ∷ later)) ≡ number
first_holds [] number later none = refl
first_holds ((k when false) ∷ earlier) number later none = first_holds earlier number later none
first_holds ((k when true) ∷ earlier) number later none = let z : ◌≡◌ {A = ℕ} 0 1 = cc in absurd (omega arith)

-- and 0 is the answer if none holds
pub none_holds_lem : (checks : List Check) → none_holds checks ≡ true → first_of checks ≡ 0
none_holds_lem [] none = refl
none_holds_lem ((k when false) ∷ checks) none = none_holds_lem checks none
none_holds_lem ((k when true) ∷ checks) none = let z : ◌≡◌ {A = ℕ} 0 1 = cc in absurd (omega arith)

-- A check of this number holds, and none before it.
pub record Decides (checks : List Check) (number : ℕ) : Type 0 where
  pub earlier : List Check
  pub later : List Check
  pub parts : checks ≡ earlier ++ ((number when true) ∷ later)
  pub none_earlier : none_holds earlier ≡ true

decides_later : (k : ℕ) (checks : List Check) (number : ℕ) → Decides checks number → Decides ((k when false) ∷ checks) number
decides_later k checks number d =
    record {
      earlier = (k when false) ∷ d.earlier;
      later = d.later;
      parts = ap (λ (l : List Check). (k when false) ∷ l) d.parts;
      none_earlier = d.none_earlier;
    }

-- So the number tells: either no condition holds, or the number is that of the first one that does.
pub decided : (checks : List Check) → (none_holds checks ≡ true) ⊎ Decides checks (first_of checks)
decided [] = inl refl
decided ((k when true) ∷ checks) = inr (record { earlier = []; later = checks; parts = refl; none_earlier = refl })
decided ((k when false) ∷ checks) = ⊎_elim inl (λ d. inr (decides_later k checks (first_of checks) d)) (decided checks)

-- The checks of a vector come in the table's order.
pub vector_in_order : (n dim length : ℕ) → in_order order (vector_checks n dim length) ≡ true
vector_in_order n dim length = refl
