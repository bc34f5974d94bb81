-- Which call is asked for, the lists that it changes as bytes, and what the functions between the checks and the call ask of the bytes.
-- Definitions only. Public promises cite `lists_in` and `bytes_of_lists` alone.
use Rattle.answers.specs.Numbers.{Answer}
use Rattle.std.specs.Prelude.{◌≡◌, List, ℕ, ◌-◌, ◌*◌, ◌/◌, ◌≤◌, length, Float}
use Rattle.std.specs.Float.{Format}
use Rattle.answers.specs.Promise.{Ends}
use Rattle.wire.specs.Bytes.{bytes_each, values_in, bytes_of}
use Rattle.wire.specs.Words.{indexes_in}
use Rattle.elements.specs.declared.unchecked.Rule.{Rule}
use Rattle.elements.specs.declared.unchecked.Rule.TheVariants.{Place, Number}
use Rattle.elements.specs.Assembly.{Lists, assembled}
use Rattle.elements.specs.Checks.{assembly_checks}
use Rattle.pattern_bytes.specs.Checks.{Held}
use Rattle.assembly_bytes.specs.declared.unchecked.Call.{Call}
use Rattle.assembly_bytes.specs.declared.unchecked.Call.TheVariants.{Merge, Csrdia}

-- the two lists that an assembly changes, from their bytes and as bytes
abbrev pub lists_in : Format → List ℕ → List ℕ → Lists
lists_in f diagonal values = (values_in f diagonal, values_in f values)

abbrev pub bytes_of_lists : Format → Lists → List ℕ × List ℕ
bytes_of_lists f lists = (bytes_of f lists.0, bytes_of f lists.1)

-- which pairs a call adds to the diagonal
abbrev pub rule_of : Call → Rule
rule_of Merge = Place
rule_of Csrdia = Number

-- `merge` has one list of nodes, and `csrdia` is at N = 1
abbrev pub Called : Call → ℕ → List ℕ → List ℕ → Type 0
Called Merge dim rows cols = cols ≡ rows
Called Csrdia dim rows cols = dim ≡ 1

-- how a call ends whose element is words and whose matrix is bytes
abbrev pub AssemblyEnds : Format → Call → ℕ → List ℕ → List ℕ → List Float → List ℕ → List ℕ → List ℕ → List ℕ → Answer → List ℕ → List ℕ → Type 0
AssemblyEnds f call dim rows cols element offsets columns diagonal values answer new_diagonal new_values =
    Ends {A = List ℕ × List ℕ}
    (assembly_checks dim (rule_of call) rows cols (length element) (indexes_in offsets) (indexes_in columns) (length diagonal / bytes_each f) (length values / bytes_each f))
    answer (bytes_of_lists f (assembled f dim (rule_of call) rows cols element (indexes_in offsets) (indexes_in columns) (lists_in f diagonal values)))
    (diagonal, values) (new_diagonal, new_values)

-- a diagonal within document 01's limits. Up to 9 values to a row, so that a small pattern has few of them
pub record DiagonalSized (offsets diagonal : ℕ) : Type 0 where
  pub full : Held 8 36864 diagonal
  pub per_row : diagonal / 8 ≤ 9 * (offsets / 4 - 1)
