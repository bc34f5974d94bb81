-- Document 01's levels, in "sparse_ilu": of every pair of rows, by the entries and by lower rows.
-- Definitions only.
use Rattle.std.specs.Prelude.{◌≡◌, ◌≢◌, Bool, true, cond, ◌&&◌, ℕ, zero, suc, ◌≤◌, ◌<◌, min, max, ltb, eqb}
use Rattle.std.proofs.Math.Option.{Option, none, some}

-- A pattern says of each pair (i, j) whether it is stored.
abbrev pub Pattern : Type 0
Pattern = ℕ → ℕ → Bool

-- The pair (i, j), i not j, is given the level l: "entries of A have level 0; an entry (i,j), i not j, is given level
-- max(level(i,p), level(p,j)) + 1 by p lower than both, if both levels are below k".
pub data Given (A : Pattern) (k : ℕ) : ℕ → ℕ → ℕ → Type 0 where
  entry : {i j : ℕ} → i ≢ j → A i j ≡ true → Given A k i j 0
  fill : {i j l m : ℕ} (p : ℕ) → i ≢ j → p < i → p < j → Given A k i p l → Given A k p j m → l < k → m < k → Given A k i j (suc (max l m))

-- "the least level counts": l is given, and none less
pub record Level (A : Pattern) (k i j l : ℕ) : Type 0 where
  pub given : Given A k i j l
  pub least : (m : ℕ) → Given A k i j m → l ≤ m

-- the lesser of two levels, where `none` is no level
abbrev pub lesser : Option ℕ → Option ℕ → Option ℕ
lesser none m = m
lesser (some l) none = some l
lesser (some l) (some m) = some (min l m)

-- the level that p gives, from those of (i, p) and (p, j)
abbrev pub through : ℕ → Option ℕ → Option ℕ → Option ℕ
through k none m = none
through k (some l) none = none
through k (some l) (some m) = cond (ltb l k && ltb m k) (some (suc (max l m))) none

-- the least level that (i, j) is given by its entry and by the rows below b
unfoldable pub level_below : Pattern → ℕ → ℕ → ℕ → ℕ → Option ℕ
level_below A k zero i j = cond (A i j) (some 0) none
level_below A k (suc p) i j = lesser (level_below A k p i j) (through k (level_below A k p i p) (level_below A k p p j))

-- the level of (i, j), computed: the rows lower than both are those below the lesser
unfoldable pub level_of : Pattern → ℕ → ℕ → ℕ → Option ℕ
unfolding level_below
level_of A k i j = cond (eqb i j) none (level_below A k (min i j) i j)
