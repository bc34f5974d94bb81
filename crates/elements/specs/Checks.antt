-- What the assembly calls refuse, in checking order: the lengths first, then the pattern, the nodes and the entries.
-- Definitions only.
use Rattle.std.specs.Prelude.{List, [], ◌∷◌, ◌++◌, Bool, not, ◌||◌, ℕ, ◌-◌, ◌*◌, eqb, length}
use Rattle.answers.specs.Checks.{Check, ◌when◌}
use Rattle.answers.specs.Limits.{nodes_out_of_range}
use Rattle.patterns.specs.Pattern.{rows_of, valid_entries, valid_pattern}
use Rattle.patterns.specs.Checks.{too_large}
use Rattle.elements.specs.declared.unchecked.Rule.{Rule}
use Rattle.elements.specs.declared.unchecked.Rule.TheVariants.{Place, Number, Never}
use Rattle.elements.specs.Pairs.{names_outside, is_missing}

-- m is outside 1 to 8, the two lists of nodes differ in length, or element values are not m*m*B
abbrev pub wrong_element : ℕ → ℕ → ℕ → ℕ → Bool
wrong_element n rows cols element = nodes_out_of_range rows || (not (eqb cols rows) || not (eqb element (rows * rows * (n * n))))

-- or entry values are not B per entry
abbrev pub wrong_entries : ℕ → ℕ → ℕ → ℕ → ℕ → ℕ → Bool
wrong_entries n rows cols element columns values = wrong_element n rows cols element || not (eqb values (n * n * columns))

-- or diagonal values are not B per row
abbrev pub wrong_diagonal : ℕ → ℕ → ℕ → ℕ → ℕ → ℕ → ℕ → ℕ → Bool
wrong_diagonal n rows cols element offsets columns diagonal values =
    wrong_entries n rows cols element columns values || not (eqb diagonal (n * n * (offsets - 1)))

-- the checks by lengths alone, without a diagonal and with one
abbrev pub entry_lengths : ℕ → ℕ → ℕ → ℕ → ℕ → ℕ → ℕ → List Check
entry_lengths n rows cols element offsets columns values =
    (1 when too_large offsets columns) ∷ (2 when wrong_entries n rows cols element columns values) ∷ []

abbrev pub element_lengths : ℕ → ℕ → ℕ → ℕ → ℕ → ℕ → ℕ → ℕ → List Check
element_lengths n rows cols element offsets columns diagonal values =
    (1 when too_large offsets columns) ∷ (2 when wrong_diagonal n rows cols element offsets columns diagonal values) ∷ []

-- the checks of the nodes and the pairs
abbrev pub pair_checks : Rule → List ℕ → List ℕ → List ℕ → List ℕ → List Check
pair_checks rule rows cols offsets columns =
    (6 when names_outside (rows_of offsets) rows cols) ∷ (7 when is_missing rule rows cols offsets columns) ∷ []

-- all checks of a call with a diagonal
abbrev pub assembly_checks : ℕ → Rule → List ℕ → List ℕ → ℕ → List ℕ → List ℕ → ℕ → ℕ → List Check
assembly_checks n rule rows cols element offsets columns diagonal values =
    element_lengths n (length rows) (length cols) element (length offsets) (length columns) diagonal values
    ++ ((3 when not (valid_pattern offsets columns)) ∷ pair_checks rule rows cols offsets columns)

abbrev pub merge_checks : ℕ → List ℕ → ℕ → List ℕ → List ℕ → ℕ → ℕ → List Check
merge_checks n nodes element offsets columns diagonal values = assembly_checks n Place nodes nodes element offsets columns diagonal values

abbrev pub csrdia_checks : List ℕ → List ℕ → ℕ → List ℕ → List ℕ → ℕ → ℕ → List Check
csrdia_checks rows cols element offsets columns diagonal values = assembly_checks 1 Number rows cols element offsets columns diagonal values

-- of `blkcsr`, where a row's own column may stand
abbrev pub blkcsr_checks : ℕ → List ℕ → List ℕ → ℕ → List ℕ → List ℕ → ℕ → List Check
blkcsr_checks n rows cols element offsets columns values =
    entry_lengths n (length rows) (length cols) element (length offsets) (length columns) values
    ++ ((3 when not (valid_entries offsets columns)) ∷ pair_checks Never rows cols offsets columns)
