-- What a check of one row finds, and of the first rows: for the promises of the functions inside. No public promise cites these.
-- Definitions only.
use Rattle.std.specs.Prelude.{◌≡◌, List, [], ◌∷◌, Bool, true, cond, not, ◌&&◌, ℕ, ◌+◌, ◌≤◌, ltb, leb, eqb, get_or}
use Rattle.base.specs.All.{all_to}
use Rattle.base.specs.First.{first_in}
use Rattle.patterns.specs.Pattern.{rows_of, row_of, all_below, once, rises, valid_offsets}

-- What the first checks have shown when the rows are looked at.
pub record Ordered (offsets columns : List ℕ) : Type 0 where
  pub some : 1 ≤ rows_of offsets
  pub few : rows_of offsets ≤ 4096
  pub valid : valid_offsets offsets columns ≡ true

-- a column that may come next in a row that climbs: from `least` on, not `own`, and below n
abbrev pub climbs_at : ℕ → ℕ → ℕ → ℕ → Bool
climbs_at n own least column = leb least column && not (eqb column own) && ltb column n

-- columns climb from `least` on: each is above the one before it
unfoldable pub climbs : ℕ → ℕ → ℕ → List ℕ → Bool
climbs n own least [] = true
climbs n own least (column ∷ later) = climbs_at n own least column && climbs n own (column + 1) later

-- eight columns do so if they rise, the last is below n, and none is `own`
abbrev pub eight_climb : ℕ → ℕ → ℕ → ℕ → ℕ → ℕ → ℕ → ℕ → ℕ → ℕ → ℕ → Bool
eight_climb n own least c0 c1 c2 c3 c4 c5 c6 c7 =
    leb least c0 && (ltb c0 c1 && ltb c1 c2 && ltb c2 c3 && ltb c3 c4 && ltb c4 c5 && ltb c5 c6 && ltb c6 c7 && ltb c7 n
    && (not (eqb c0 own) && not (eqb c1 own) && not (eqb c2 own) && not (eqb c3 own) && not (eqb c4 own) && not (eqb c5 own) && not (eqb c6 own)
    && not (eqb c7 own)))

-- the eight from place k on
unfoldable pub eight_climb_at : ℕ → ℕ → ℕ → List ℕ → ℕ → Bool
eight_climb_at n own least row k =
    eight_climb n own least (get_or row k 0) (get_or row (k + 1) 0) (get_or row (k + 2) 0) (get_or row (k + 3) 0) (get_or row (k + 4) 0) (get_or row (k + 5) 0) (get_or row (k + 6) 0) (get_or row (k + 7) 0)

-- the first m rows climb; n is refused, which no column may be, where a row's own column may stand
unfoldable pub rows_climb : Bool → List ℕ → List ℕ → ℕ → Bool
rows_climb refused offsets columns m = all_to (λ i. climbs (rows_of offsets) (cond refused i (rows_of offsets)) 0 (row_of offsets columns i)) m

-- What all checks before have shown when the marks decide.
pub record Ready (offsets columns : List ℕ) : Type 0 where
  pub ordered : Ordered offsets columns
  pub below : all_below (rows_of offsets) columns ≡ true

-- the columns of a row differ, also from its own if that is refused
unfoldable pub row_right : Bool → ℕ → List ℕ → Bool
row_right refused own row = once (cond refused (own ∷ row) row)

-- the first m rows are so
unfoldable pub rows_right : Bool → List ℕ → List ℕ → ℕ → Bool
rows_right refused offsets columns m = all_to (λ i. row_right refused i (row_of offsets columns i)) m

-- a valid pattern, or one in which a row's own column may stand, with the rules of a row in one
unfoldable pub valid_as : Bool → List ℕ → List ℕ → Bool
valid_as refused offsets columns =
    valid_offsets offsets columns && (all_below (rows_of offsets) columns && rows_right refused offsets columns (rows_of offsets))

-- the first m steps of a row rise
abbrev pub rises_to : List ℕ → ℕ → Bool
rises_to row m = all_to (λ k. ltb (get_or row k 0) (get_or row (k + 1) 0)) m

-- seven steps from place k on
unfoldable pub seven_rise : List ℕ → ℕ → Bool
seven_rise row k =
    ltb (get_or row k 0) (get_or row (k + 1) 0) && ltb (get_or row (k + 1) 0) (get_or row (k + 2) 0) && ltb (get_or row (k + 2) 0) (get_or row (k + 3) 0)
    && ltb (get_or row (k + 3) 0) (get_or row (k + 4) 0) && ltb (get_or row (k + 4) 0) (get_or row (k + 5) 0) && ltb (get_or row (k + 5) 0) (get_or row (k + 6) 0)
    && ltb (get_or row (k + 6) 0) (get_or row (k + 7) 0)

-- the first place of a row whose column exceeds `own`, or the row's end
abbrev pub first_above : ℕ → List ℕ → ℕ
first_above own row = first_in (λ column. ltb own column) row

-- a row that begins at place `first` rises strictly and has this split
unfoldable pub factor_row : ℕ → ℕ → ℕ → List ℕ → Bool
factor_row own first split row = rises row && eqb split (first + first_above own row)
