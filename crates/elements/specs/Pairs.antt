-- The pairs of an element's nodes: which of them go to the diagonal, the entry that any other goes to, and what a call refuses of them.
-- Definitions only.
use Rattle.std.specs.Prelude.{List, Bool, false, not, ◌||◌, ℕ, ◌+◌, eqb, length, get_or}
use Rattle.base.specs.All.{all_to}
use Rattle.answers.specs.Limits.{is_place}
use Rattle.patterns.specs.Pattern.{row_of, all_below}
use Rattle.rows.specs.Lookup.{place_in}
use Rattle.elements.specs.declared.unchecked.Rule.{Rule}
use Rattle.elements.specs.declared.unchecked.Rule.TheVariants.{Place, Number, Never}

-- `merge`: same node place goes to the diagonal; `csrdia`: equal row and column numbers, not places; `blkcsr`: every pair goes to an entry
unfoldable pub to_diagonal : Rule → List ℕ → List ℕ → ℕ → ℕ → Bool
to_diagonal Place rows cols a b = eqb a b
to_diagonal Number rows cols a b = eqb (get_or rows a 0) (get_or cols b 0)
to_diagonal Never rows cols a b = false

-- where column j stands in row i
abbrev pub place_of : List ℕ → List ℕ → ℕ → ℕ → ℕ
place_of offsets columns i j = place_in (row_of offsets columns i) j

-- the entry of row i with column j
abbrev pub entry_of : List ℕ → List ℕ → ℕ → ℕ → ℕ
entry_of offsets columns i j = get_or offsets i 0 + place_of offsets columns i j

-- the entry of a pair: of its row node's row with its column node's column
unfoldable pub entry_at : List ℕ → List ℕ → List ℕ → List ℕ → ℕ → ℕ → ℕ
entry_at rows cols offsets columns a b = entry_of offsets columns (get_or rows a 0) (get_or cols b 0)

-- 6: an element names a row or column at or above n
abbrev pub names_outside : ℕ → List ℕ → List ℕ → Bool
names_outside n rows cols = not (all_below n rows) || not (all_below n cols)

-- a pair that goes to an entry finds it stored
unfoldable pub is_stored : Rule → List ℕ → List ℕ → List ℕ → List ℕ → ℕ → ℕ → Bool
is_stored rule rows cols offsets columns a b = to_diagonal rule rows cols a b || is_place (place_of offsets columns (get_or rows a 0) (get_or cols b 0))

-- every pair of a row node
unfoldable pub is_row_stored : Rule → List ℕ → List ℕ → List ℕ → List ℕ → ℕ → Bool
is_row_stored rule rows cols offsets columns a = all_to (is_stored rule rows cols offsets columns a) (length cols)

-- every pair
unfoldable pub are_stored : Rule → List ℕ → List ℕ → List ℕ → List ℕ → Bool
are_stored rule rows cols offsets columns = all_to (is_row_stored rule rows cols offsets columns) (length rows)

-- 7: an element pair that goes to an entry finds none stored
abbrev pub is_missing : Rule → List ℕ → List ℕ → List ℕ → List ℕ → Bool
is_missing rule rows cols offsets columns = not (are_stored rule rows cols offsets columns)
