-- Where a column stands in a row's part of the columns.
-- Definitions only.
use Rattle.std.specs.Prelude.{List, cond, ℕ, ltb, eqb, length}
use Rattle.base.specs.First.{first_in}

-- "no place", as `Index::NO_PLACE` of answers has it
abbrev pub no_place : ℕ
no_place = 4294967295

-- the index of the first place with that column, or "no place" if there is none
unfoldable pub place_in : List ℕ → ℕ → ℕ
place_in row column =
    let k = first_in (λ c. eqb c column) row in
    cond (ltb k (length row)) k no_place
