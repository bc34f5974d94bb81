-- What an entry point on byte slices promises: its number, its row, and the words that it leaves in out.
-- Definitions only.
use Rattle.std.specs.Prelude.{◌≡◌, List, [], ◌∷◌, Bool, false, not, ◌||◌, cond, ℕ, ◌*◌, eqb, Float}
use Rattle.std.specs.Float.{Format}
use Rattle.answers.specs.Checks.{Check, first_of, ◌when◌}
use Rattle.answers.specs.Limits.{outside_of}
use Rattle.answers.specs.Promise.{after}
use Rattle.wire.specs.Bytes.{bytes_each, bytes_of}
use Rattle.outcomes.specs.declared.Outcome.{Outcome}

infixl 20 ◌bytes_for◌
-- how many bytes a lent slice has, and how many values the call has in it
pub data Lent : Type 0 where
  ◌bytes_for◌ : ℕ → ℕ → Lent

-- some slice has not the bytes of its values
abbrev pub wrong_bytes : Format → List Lent → Bool
wrong_bytes f [] = false
wrong_bytes f ((bytes bytes_for values) ∷ lent) = not (eqb bytes (bytes_each f * values)) || wrong_bytes f lent

-- N is not 1, 2 or 3, or a slice has another length
abbrev pub misshapen : Format → ℕ → List Lent → Bool
misshapen f dim lent = outside_of 1 3 dim || wrong_bytes f lent

-- Refused with 2 and out unchanged if a slice or N is wrong; else the later checks decide, and out has the words of the result. No row is ever above 0.
pub record Answered (f : Format) (dim : ℕ) (lent : List Lent) (later : List Check) (result : List Float) (old new : List ℕ) (outcome : Outcome) : Type 0 where
  pub number : outcome.number ≡ first_of ((2 when misshapen f dim lent) ∷ later)
  pub row : outcome.row ≡ 0
  pub left : new ≡ cond (misshapen f dim lent) old (bytes_of f result)

-- What an entry point on numbers alone promises: the first of its checks.
pub record Checked (checks : List Check) (outcome : Outcome) : Type 0 where
  pub number : outcome.number ≡ first_of checks
  pub row : outcome.row ≡ 0

-- What an entry point promises whose call is done or changes nothing: the number of the first check that holds, and what is lent as that says.
pub record Finished {A : Type 0} (checks : List Check) (number : ℕ) (new old left : A) : Type 0 where
  pub first : number ≡ first_of checks
  pub lent : left ≡ after checks new old
