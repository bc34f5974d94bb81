-- A list whose every element is replaced by a function of its index and itself: what a loop over a lent slice does.
-- Definitions only.
use Rattle.std.specs.Prelude.{List, [], ◌∷◌, ◌++◌, ℕ, zero, suc, take, drop}

-- element i of `each f l` is `f i` of element i of l
unfoldable pub each : {A : Type 0} → (ℕ → A → A) → List A → List A
each f [] = []
each f (x ∷ l) = f zero x ∷ each (λ i. f (suc i)) l

-- the same of the first n elements alone: what a loop has done after n turns
unfoldable pub each_to : {A : Type 0} → (ℕ → A → A) → ℕ → List A → List A
unfolding each
each_to f n l = take n (each f l) ++ drop n l
