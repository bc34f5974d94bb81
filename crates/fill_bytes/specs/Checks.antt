-- What the calls that write a pattern refuse when all is lent as bytes: the size, then bytes that make no whole words, then what the call refuses on words.
-- Definitions only.
use Rattle.std.specs.Prelude.{List, [], ◌∷◌, ◌++◌, Bool, ◌||◌, ℕ, ◌/◌, length}
use Rattle.answers.specs.Checks.{Check, ◌when◌}
use Rattle.answers.specs.Limits.{rows_out_of_range}
use Rattle.full.specs.Full.{full_checks}
use Rattle.ilu0.specs.Ilu0.{ilu0_checks}
use Rattle.iluk.specs.Checks.{iluk_checks}
use Rattle.wire.specs.Words.{indexes_in}
use Rattle.pattern_bytes.specs.Checks.{broken, broken_pattern, byte_checks}

-- the bytes of a pattern that is written, 4 to a word
abbrev pub broken_outputs : ℕ → ℕ → ℕ → Bool
broken_outputs offsets columns splits = broken_pattern offsets columns || broken 4 splits

-- or those of A
abbrev pub broken_fill : ℕ → ℕ → ℕ → ℕ → ℕ → Bool
broken_fill starts entries offsets columns splits = broken_pattern starts entries || broken_outputs offsets columns splits

-- or those of the work: 2 to a level, 4 to a word of the row
abbrev pub broken_iluk : ℕ → ℕ → ℕ → ℕ → ℕ → ℕ → ℕ → Bool
broken_iluk starts entries offsets columns splits levels row = broken_fill starts entries offsets columns splits || (broken 2 levels || broken 4 row)

-- of a full pattern, whose size is n alone
abbrev pub full_byte_checks : ℕ → ℕ → ℕ → ℕ → List Check
full_byte_checks n offsets columns splits =
    ((1 when rows_out_of_range n) ∷ (2 when broken_outputs offsets columns splits) ∷ []) ++ full_checks n (offsets / 4) (columns / 4) (splits / 4)

-- of the sorted rows of A
abbrev pub ilu0_byte_checks : List ℕ → List ℕ → ℕ → ℕ → ℕ → List Check
ilu0_byte_checks starts entries offsets columns splits =
    byte_checks (length starts) (length entries) (broken_fill (length starts) (length entries) offsets columns splits)
    ++ ilu0_checks (indexes_in starts) (indexes_in entries) (offsets / 4) (columns / 4) (splits / 4)

-- of the fill at level k
abbrev pub iluk_byte_checks : ℕ → List ℕ → List ℕ → ℕ → ℕ → ℕ → ℕ → ℕ → List Check
iluk_byte_checks k starts entries offsets columns splits levels row =
    byte_checks (length starts) (length entries) (broken_iluk (length starts) (length entries) offsets columns splits levels row)
    ++ iluk_checks k (indexes_in starts) (indexes_in entries) (offsets / 4) (columns / 4) (splits / 4) (levels / 2) (row / 4)

-- what the code checks by lengths before a word is read: too large, bytes that make no whole words, wrong lengths. No promise of a public call cites this
abbrev pub length_checks : Bool → Bool → Bool → List Check
length_checks large broken wrong = (1 when large) ∷ (2 when broken) ∷ (2 when wrong) ∷ []
