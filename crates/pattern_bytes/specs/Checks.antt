-- What a call on lent bytes looks at before the words are read: the size of its pattern, then that all bytes make whole words.
-- Definitions only. The call's own checks, on the words that the bytes hold, come after these.
use Rattle.std.specs.Prelude.{◌≡◌, List, [], ◌∷◌, Bool, not, ◌||◌, ℕ, ◌-◌, ◌*◌, ◌/◌, ◌%◌, ◌≤◌, eqb}
use Rattle.answers.specs.Checks.{Check, ◌when◌}
use Rattle.answers.specs.Limits.{entries_out_of_range}
use Rattle.patterns.specs.Checks.{too_large, pattern_checks, entries_checks, factor_checks}
use Rattle.pattern_bytes.specs.declared.Kind.{Kind}
use Rattle.pattern_bytes.specs.declared.Kind.TheVariants.{Pattern, Entries, Factor}

-- bytes that make no whole words of k bytes
abbrev pub broken : ℕ → ℕ → Bool
broken k bytes = not (eqb (bytes % k) 0)

-- 1 by the whole words of a pattern's offsets and columns, then 2 for what is wrong with the form of anything that is lent
abbrev pub byte_checks : ℕ → ℕ → Bool → List Check
byte_checks offsets columns misshapen = (1 when too_large (offsets / 4) (columns / 4)) ∷ (2 when misshapen) ∷ []

-- the bytes of a pattern
abbrev pub broken_pattern : ℕ → ℕ → Bool
broken_pattern offsets columns = broken 4 offsets || broken 4 columns

-- those of splits: a word to each row
abbrev pub broken_factor : ℕ → ℕ → ℕ → Bool
broken_factor offsets columns splits = broken_pattern offsets columns || not (eqb splits (4 * (offsets / 4 - 1)))

-- the checks of words, by the kind of pattern that is asked for
abbrev pub checks_of : Kind → List ℕ → List ℕ → List ℕ → List Check
checks_of Pattern offsets columns splits = pattern_checks offsets columns
checks_of Entries offsets columns splits = entries_checks offsets columns
checks_of Factor offsets columns splits = factor_checks offsets columns splits

-- the checks of a row that is to be sorted, which is at most as long as a pattern
abbrev pub row_checks : ℕ → List Check
row_checks columns = (1 when entries_out_of_range (columns / 4)) ∷ (2 when broken 4 columns) ∷ []

-- bytes that make whole words of k bytes, no more of them than a room has
pub record Held (k room bytes : ℕ) : Type 0 where
  pub whole : bytes ≡ k * (bytes / k)
  pub few : bytes / k ≤ room
