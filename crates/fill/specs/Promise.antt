-- The promise of a call that writes a pattern: done, or nothing has changed, or all words are 0.
-- Definitions only.
use Rattle.std.specs.Prelude.{List, Bool, not, cond, ◌||◌, ℕ, ◌+◌, eqb, length, replicate}
use Rattle.answers.specs.Limits.{entries_out_of_range}

-- 2, of what is written: offsets n+1, splits n; room, the length of the lent columns, is at most 65,535
abbrev pub wrong_outputs : ℕ → ℕ → ℕ → ℕ → Bool
wrong_outputs n offsets columns splits = not (eqb offsets (n + 1)) || (entries_out_of_range columns || not (eqb splits n))

-- "After 4 and 5 all output and work words are 0."
abbrev pub cleared : List ℕ → List ℕ
cleared words = replicate (length words) 0

-- what a lent slice holds after a call with this number: the new words after 0, zeros after 4 and 5, and else the old ones
abbrev pub leaves : ℕ → List ℕ → List ℕ → List ℕ
leaves number new old = cond (eqb number 0) new (cond (eqb number 4 || eqb number 5) (cleared old) old)
