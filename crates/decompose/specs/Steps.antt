-- What some of the functions of the crate that check nothing do. No public promise cites these.
-- Definitions only.
use Rattle.std.specs.Prelude.{cond, ℕ, ◌+◌, ltb, get_or}
use Rattle.std.proofs.Math.Option.{Option, none, some}
use Rattle.std.specs.Float.{Format}
use Rattle.base.specs.Iterate.{iterate}
use Rattle.factors.specs.Factor.{FactorPattern, FactorValues, multiply_entry}

-- the upper entries of row i, where its pivot is inverted already
unfoldable pub multiply_row : Format → ℕ → FactorPattern → ℕ → FactorValues → FactorValues
multiply_row f n t i s = iterate (multiply_entry f n i) (get_or t.splits i 0) (get_or t.offsets (i + 1) 0) s

-- the row that stopped, where the number of rows says that none did
unfoldable pub stopped_at : ℕ → ℕ → Option ℕ
stopped_at rows row = cond (ltb row rows) (some row) none
