-- What the functions between the checks and the calls ask of the bytes and of the room for their words. No public promise cites these.
-- Definitions only.
use Rattle.answers.specs.Numbers.{Answer}
use Rattle.std.specs.Prelude.{List, ◌++◌, ◌||◌, ℕ, ◌*◌, ◌/◌, ◌≤◌, length, Float}
use Rattle.std.specs.Float.{Format}
use Rattle.answers.specs.Checks.{Check}
use Rattle.answers.specs.Limits.{outside_of}
use Rattle.answers.specs.Promise.{Ends}
use Rattle.wire.specs.Bytes.{bytes_each, values_in, bytes_of}
use Rattle.wire.specs.Words.{indexes_in}
use Rattle.elements.specs.Assembly.{blkcsr_of}
use Rattle.elements.specs.Checks.{entry_lengths, blkcsr_checks}
use Rattle.pattern_bytes.specs.Checks.{byte_checks, Held}
use Rattle.entry_bytes.specs.Checks.{broken_entries}

-- all checks by lengths, on counts of bytes
abbrev pub blkcsr_lengths : ℕ → ℕ → ℕ → ℕ → ℕ → ℕ → ℕ → List Check
blkcsr_lengths dim rows cols element offsets columns values =
    byte_checks offsets columns (outside_of 1 3 dim || broken_entries rows cols element offsets columns values)
    ++ entry_lengths dim (rows / 4) (cols / 4) (element / 8) (offsets / 4) (columns / 4) (values / 8)

-- how a call ends whose element is words and whose matrix is bytes
abbrev pub BlkcsrEnds : Format → ℕ → List ℕ → List ℕ → List Float → List ℕ → List ℕ → List ℕ → Answer → List ℕ → Type 0
BlkcsrEnds f dim rows cols element offsets columns values answer new_values =
    Ends (blkcsr_checks dim rows cols (length element) (indexes_in offsets) (indexes_in columns) (length values / bytes_each f)) answer
    (bytes_of f (blkcsr_of f dim rows cols element (indexes_in offsets) (indexes_in columns) (values_in f values))) values new_values

-- an element of up to 8 nodes
pub record ElementFits (rows cols element : ℕ) : Type 0 where
  pub of_rows : Held 4 8 rows
  pub of_cols : Held 4 8 cols
  pub of_element : Held 8 576 element

-- a matrix without its diagonal
pub record EntriesFit (o c v offsets columns values : ℕ) : Type 0 where
  pub of_offsets : Held 4 o offsets
  pub of_columns : Held 4 c columns
  pub of_values : Held 8 v values

-- document 01's limits. Up to 9 values to an entry, so that a small pattern has few of them
pub record EntriesSized (offsets columns values : ℕ) : Type 0 where
  pub full : EntriesFit 4097 65535 589815 offsets columns values
  pub per_entry : values / 8 ≤ 9 * (columns / 4)
