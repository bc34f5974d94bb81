-- The first element of a list at which a test holds: what a search finds.
-- Definitions only.
use Rattle.std.specs.Prelude.{List, [], ◌∷◌, Bool, cond, ℕ, zero, suc}

-- the index of the first element at which p holds, and the length where there is none
unfoldable pub first_in : {A : Type 0} → (A → Bool) → List A → ℕ
first_in p [] = 0
first_in p (x ∷ l) = cond (p x) 0 (suc (first_in p l))
