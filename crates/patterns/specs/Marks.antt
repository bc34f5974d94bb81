-- A mark to each column, by which a repeat is seen: the columns of a row are marked with the row's stamp, one after the other.
-- Definitions only.
use Rattle.std.specs.Prelude.{◌≡◌, List, [], ◌∷◌, Bool, true, not, ◌&&◌, ℕ, ◌≤◌, ◌<◌, eqb, length, get_or, set, drop}

-- a column does not have the stamp yet
abbrev pub is_fresh : ℕ → ℕ → List ℕ → Bool
is_fresh stamp column marks = not (eqb (get_or marks column 0) stamp)

-- no column of a list has it when its turn comes, and then it is marked
unfoldable pub all_fresh : ℕ → List ℕ → List ℕ → Bool
all_fresh stamp [] marks = true
all_fresh stamp (column ∷ later) marks = is_fresh stamp column marks && all_fresh stamp later (set marks column stamp)

-- no mark is above a number
abbrev pub AtMost : ℕ → List ℕ → Type 0
AtMost most marks = (v : ℕ) → get_or marks v 0 ≤ most

-- There is a mark to each of 4,096 columns, and all are below a number.
pub record Below (bound : ℕ) (marks : List ℕ) : Type 0 where
  pub long : length marks ≡ 4096
  pub low : (v : ℕ) → get_or marks v 0 < bound

-- The columns of a row from one place to another were marked. `found` says that each was fresh, so that those after them decide; no mark is lost, and none rose above the stamp.
pub record Marking (stamp : ℕ) (row : List ℕ) (from to : ℕ) (found : Bool) (old new : List ℕ) : Type 0 where
  pub left : all_fresh stamp (drop from row) old ≡ (found && all_fresh stamp (drop to row) new)
  pub long : length new ≡ length old
  pub most : AtMost stamp old → AtMost stamp new
