-- Document 01's worked examples on levels and nesting, computed from the definitions.
-- Assumes nothing.
use mathlib.Core.Path.{◌≡◌, refl}
use mathlib.Core.Bool.{Bool, true, false, cond, ◌&&◌, ◌||◌}
use mathlib.Core.Option.{Option, none, some}
use mathlib.Core.List.{List, [], ◌∷◌, ◌++◌, foldr}
use Prim.Native.Nat.{ℕ, zero, suc, ◌+◌}
use lib.Dec.{eqb}
use lib.ListN.{length}
use Rattle.walks.specs.Levels.{Pattern, level_of}
use Rattle.walks.specs.Nesting.{nesting}

-- the pattern of pairs that are stored both ways
abbrev both_ways : List (ℕ × ℕ) → Pattern
both_ways [] i j = false
both_ways (e ∷ es) i j = ((eqb i e.0 && eqb j e.1) || (eqb i e.1 && eqb j e.0)) || both_ways es i j

-- whether there is a level
abbrev has : Option ℕ → Bool
has none = false
has (some l) = true

-- the columns below n that have a level in row i, rising
columns : Pattern → ℕ → ℕ → ℕ → List ℕ
unfolding level_of
columns A k i zero = []
columns A k i (suc n) = columns A k i n ++ cond (has (level_of A k i n)) (n ∷ []) []

-- those of the first m of n rows
rows : Pattern → ℕ → ℕ → ℕ → List (List ℕ)
unfolding columns
rows A k n zero = []
rows A k n (suc i) = rows A k n i ++ (columns A k i n ∷ [])

-- how many there are in all
entries : Pattern → ℕ → ℕ → ℕ
unfolding rows
entries A k n = foldr (λ row sum. length row + sum) 0 (rows A k n n)

-- "Pattern P: n=5, pairs 0-2, 0-3, 1-2, 1-4, both ways."
abbrev P : Pattern
P = both_ways ((0, 2) ∷ (0, 3) ∷ (1, 2) ∷ (1, 4) ∷ [])

-- 1
P-0 : rows P 0 5 5 ≡ (2 ∷ 3 ∷ []) ∷ (2 ∷ 4 ∷ []) ∷ (0 ∷ 1 ∷ []) ∷ (0 ∷ []) ∷ (1 ∷ []) ∷ []
unfolding rows
P-0 = refl

-- 2
P-1 : rows P 1 5 5 ≡ (2 ∷ 3 ∷ []) ∷ (2 ∷ 4 ∷ []) ∷ (0 ∷ 1 ∷ 3 ∷ 4 ∷ []) ∷ (0 ∷ 2 ∷ []) ∷ (1 ∷ 2 ∷ []) ∷ []
unfolding rows
P-1 = refl

-- 3
P-2 : rows P 2 5 5 ≡ (2 ∷ 3 ∷ []) ∷ (2 ∷ 4 ∷ []) ∷ (0 ∷ 1 ∷ 3 ∷ 4 ∷ []) ∷ (0 ∷ 2 ∷ 4 ∷ []) ∷ (1 ∷ 2 ∷ 3 ∷ []) ∷ []
unfolding rows
P-2 = refl

-- "(3,4) has level 2, by walk 3 0 2 1 4"; at k = 1 it has none
P-level : (level_of P 2 3 4 ≡ some 2) × (level_of P 1 3 4 ≡ none) × (nesting (3 ∷ 0 ∷ 2 ∷ 1 ∷ 4 ∷ []) ≡ 2)
unfolding level_of nesting
P-level = (refl, refl, refl)

-- 5: "n=5, pairs 0-3, 0-1, 1-2, 2-4 both ways"
abbrev chain : Pattern
chain = both_ways ((0, 3) ∷ (0, 1) ∷ (1, 2) ∷ (2, 4) ∷ [])

-- "entries at k=0,1,2,3 are 8, 10, 12, 14"
chain_entries : (entries chain 0 5 ≡ 8) × (entries chain 1 5 ≡ 10) × (entries chain 2 5 ≡ 12) × (entries chain 3 5 ≡ 14)
unfolding entries
chain_entries = (refl, refl, refl, refl)

-- "Walk 3 0 1 2 4 has nesting 3."
chain_walk : nesting (3 ∷ 0 ∷ 1 ∷ 2 ∷ 4 ∷ []) ≡ 3
unfolding nesting
chain_walk = refl

-- "a needed walk may meet a low row twice": 6 3 1 0 5 0 2 4 7 goes to row 5 and back to row 0
abbrev twice : Pattern
twice = both_ways ((6, 3) ∷ (3, 1) ∷ (1, 0) ∷ (0, 5) ∷ (0, 2) ∷ (2, 4) ∷ (4, 7) ∷ [])

-- It nests 4 deep, which is the level of (6, 7).
twice_level : (nesting (6 ∷ 3 ∷ 1 ∷ 0 ∷ 5 ∷ 0 ∷ 2 ∷ 4 ∷ 7 ∷ []) ≡ 4) × (level_of twice 9 6 7 ≡ some 4)
unfolding level_of nesting
twice_level = (refl, refl)

-- A walk with distinct rows cannot come back from row 5, whose one neighbour is row 0, so that the pair 0-5 is lost to it. "Its shortened form may nest
-- deeper": 5 deep, and without that pair no walk does better, for the level is then 5.
abbrev distinct : Pattern
distinct = both_ways ((6, 3) ∷ (3, 1) ∷ (1, 0) ∷ (0, 2) ∷ (2, 4) ∷ (4, 7) ∷ [])

distinct_level : (nesting (6 ∷ 3 ∷ 1 ∷ 0 ∷ 2 ∷ 4 ∷ 7 ∷ []) ≡ 5) × (level_of distinct 9 6 7 ≡ some 5)
unfolding level_of nesting
distinct_level = (refl, refl)
