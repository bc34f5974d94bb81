-- The factor that bytes hold, and what is known of a call past its lengths.
-- Definitions only.
use Rattle.std.specs.Prelude.{◌≡◌, true, List, ℕ, ◌+◌, ◌/◌}
use Rattle.std.specs.Float.{Format}
use Rattle.answers.specs.Checks.{none_holds}
use Rattle.solvers.specs.Solvers.{Factor, factor_as}
use Rattle.solvers.specs.Checks.{preconditioned_lengths}
use Rattle.wire.specs.Bytes.{values_in}
use Rattle.wire.specs.Words.{indexes_in}

abbrev pub factor_in : Format → List ℕ → List ℕ → List ℕ → List ℕ → List ℕ → Factor
factor_in f offsets columns splits diagonal values = factor_as (indexes_in offsets) (indexes_in columns) (indexes_in splits) (values_in f diagonal) (values_in f values)

-- no length of the words refuses, where the history is given as many words as it may need. No promise of a call cites this
abbrev pub PreconditionedPassed : ℕ → ℕ → ℕ → ℕ → ℕ → ℕ → ℕ → ℕ → ℕ → ℕ → ℕ → ℕ → ℕ → ℕ → ℕ → Type 0
PreconditionedPassed dim limit starts entries a-values a-diagonal offsets columns splits diagonal values r x pr p =
    none_holds (preconditioned_lengths dim limit starts entries a-values a-diagonal offsets columns splits diagonal values (r / 8) (x / 8) (pr / 8) (p / 8) (limit + 2)) ≡ true
