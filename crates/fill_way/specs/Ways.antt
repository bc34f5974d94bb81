-- Which call is asked for, and what the functions between the checks and the call ask of the bytes. No promise of a public call cites these.
-- Definitions only.
use Rattle.std.specs.Prelude.{List, Bool, ◌||◌, ◌&&◌, ℕ, ◌+◌, ◌/◌, eqb, leb, length}
use Rattle.answers.specs.Checks.{Check}
use Rattle.full.specs.Full.{full_offsets, full_splits, full_checks}
use Rattle.ilu0.specs.Ilu0.{sorted_splits, ilu0_checks}
use Rattle.iluk.specs.Checks.{iluk_checks}
use Rattle.wire.specs.Words.{indexes_in, bytes_of_indexes}
use Rattle.pattern_bytes.specs.Checks.{Held}
use Rattle.fill_way.specs.Promise.{Wrote, full_columns_in, ilu0_columns, iluk_offsets, iluk_columns, iluk_splits}
use Rattle.fill_way.specs.declared.unchecked.Call.{Call}
use Rattle.fill_way.specs.declared.unchecked.Call.TheVariants.{Full, Ilu0, Iluk}

-- whether a call of this number writes: it is done, or it leaves zeros
abbrev pub writes : ℕ → Bool
writes number = eqb number 0 || (eqb number 4 || eqb number 5)

-- what a call refuses on words, whose work has the lengths of the columns and the splits
abbrev pub word_checks : Call → ℕ → List ℕ → List ℕ → ℕ → ℕ → ℕ → List Check
word_checks Full k starts entries offsets columns splits = full_checks k offsets columns splits
word_checks Ilu0 k starts entries offsets columns splits = ilu0_checks starts entries offsets columns splits
word_checks Iluk k starts entries offsets columns splits = iluk_checks k starts entries offsets columns splits columns splits

-- and the words that it writes
abbrev pub new_offsets : Call → ℕ → List ℕ → List ℕ → List ℕ
new_offsets Full k starts entries = full_offsets k
new_offsets Ilu0 k starts entries = starts
new_offsets Iluk k starts entries = iluk_offsets k starts entries

abbrev pub new_columns : Call → ℕ → List ℕ → List ℕ → ℕ → List ℕ
new_columns Full k starts entries room = full_columns_in k room
new_columns Ilu0 k starts entries room = ilu0_columns starts entries room
new_columns Iluk k starts entries room = iluk_columns k starts entries room

abbrev pub new_splits : Call → ℕ → List ℕ → List ℕ → List ℕ
new_splits Full k starts entries = full_splits k
new_splits Ilu0 k starts entries = sorted_splits starts entries
new_splits Iluk k starts entries = iluk_splits k starts entries

-- how a call ends on words,
abbrev pub WroteWords : Call → ℕ → List ℕ → List ℕ → List ℕ → List ℕ → List ℕ → ℕ → List ℕ → List ℕ → List ℕ → Type 0
WroteWords call k starts entries offsets columns splits number offsets' columns' splits' =
    Wrote (word_checks call k starts entries (length offsets) (length columns) (length splits)) number
    (new_offsets call k starts entries) (new_columns call k starts entries (length columns)) (new_splits call k starts entries)
    offsets columns splits offsets' columns' splits'

-- and on bytes
abbrev pub WroteBytes : Call → ℕ → List ℕ → List ℕ → List ℕ → List ℕ → List ℕ → ℕ → List ℕ → List ℕ → List ℕ → Type 0
WroteBytes call k starts entries offsets columns splits number offsets' columns' splits' =
    Wrote (word_checks call k (indexes_in starts) (indexes_in entries) (length offsets / 4) (length columns / 4) (length splits / 4)) number
    (bytes_of_indexes (new_offsets call k (indexes_in starts) (indexes_in entries)))
    (bytes_of_indexes (new_columns call k (indexes_in starts) (indexes_in entries) (length columns / 4)))
    (bytes_of_indexes (new_splits call k (indexes_in starts) (indexes_in entries)))
    offsets columns splits offsets' columns' splits'

-- patterns of no more than so many rows, with so many entries of A and so much room
pub record HeldFill (rows most room starts entries offsets columns splits : ℕ) : Type 0 where
  pub of_starts : Held 4 (rows + 1) starts
  pub of_entries : Held 4 most entries
  pub of_offsets : Held 4 (rows + 1) offsets
  pub of_columns : Held 4 room columns
  pub of_splits : Held 4 rows splits

-- bytes that the small rooms hold: 16 rows, 64 entries, and room for 256
abbrev pub is_small : ℕ → ℕ → ℕ → ℕ → ℕ → Bool
is_small starts entries offsets columns splits = leb starts 68 && (leb entries 256 && (leb offsets 68 && (leb columns 1024 && leb splits 64)))
