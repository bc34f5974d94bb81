-- What is known of a call past its lengths, and what is left for its words to decide. No promise of a call cites these.
-- Definitions only.
use Rattle.std.specs.Prelude.{◌≡◌, not, true, List, [], ◌∷◌, ℕ, ◌/◌}
use Rattle.answers.specs.Checks.{Check, ◌when◌, none_holds}
use Rattle.patterns.specs.Pattern.{valid_pattern}
use Rattle.solvers.specs.Checks.{plain_lengths}

-- no length of the words refuses, where the history is given as many words as it may need
abbrev pub PlainPassed : ℕ → ℕ → ℕ → ℕ → ℕ → ℕ → ℕ → ℕ → ℕ → ℕ → Type 0
PlainPassed dim limit offsets columns values diagonal r u ap p = none_holds (plain_lengths dim limit offsets columns values diagonal (r / 8) (u / 8) (ap / 8) (p / 8) limit) ≡ true

-- 3, of the pattern
abbrev pub pattern_rule : List ℕ → List ℕ → List Check
pattern_rule offsets columns = (3 when not (valid_pattern offsets columns)) ∷ []
