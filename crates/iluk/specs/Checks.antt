-- What `initialize_iluk` refuses, in checking order.
-- Definitions only.
use Rattle.std.specs.Prelude.{List, [], ◌∷◌, Bool, true, not, ◌||◌, ℕ, ltb, leb, eqb, length}
use Rattle.std.proofs.Math.Option.{Option, none, some}
use Rattle.base.specs.All.{all_to}
use Rattle.answers.specs.Checks.{Check, ◌when◌}
use Rattle.patterns.specs.Pattern.{rows_of, valid_pattern}
use Rattle.patterns.specs.Checks.{too_large}
use Rattle.walks.specs.Levels.{Pattern, level_of}
use Rattle.fill.specs.Fill.{stored, start_of}
use Rattle.fill.specs.Promise.{wrong_outputs}

-- 2: of what is written; and of the work slices, levels are as long as the room and the row has n words
abbrev pub wrong_lengths : ℕ → ℕ → ℕ → ℕ → ℕ → ℕ → Bool
wrong_lengths n offsets columns splits levels row =
    wrong_outputs n offsets columns splits || (not (eqb levels columns) || not (eqb row n))

-- a level that a word of 16 bits holds
abbrev pub level_fits : Option ℕ → Bool
level_fits none = true
level_fits (some l) = leb l 65535

-- 5: a fill level would pass 65,535
unfoldable pub level_passes : Pattern → ℕ → ℕ → Bool
level_passes A k n = not (all_to (λ i. all_to (λ j. level_fits (level_of A k i j)) n) n)

-- 4: the pattern to be written has more entries than room
abbrev pub outnumbers : Pattern → ℕ → ℕ → ℕ → Bool
outnumbers A k n room = ltb room (start_of A k n n)

abbrev pub iluk_checks : ℕ → List ℕ → List ℕ → ℕ → ℕ → ℕ → ℕ → ℕ → List Check
iluk_checks k starts entries offsets columns splits levels row =
    (1 when too_large (length starts) (length entries)) ∷ (2 when wrong_lengths (rows_of starts) offsets columns splits levels row)
    ∷ (3 when not (valid_pattern starts entries)) ∷ (5 when level_passes (stored starts entries) k (rows_of starts))
    ∷ (4 when outnumbers (stored starts entries) k (rows_of starts) columns) ∷ []
