-- A factor, from the slices that are lent.
-- Definitions only.
use Rattle.std.specs.Prelude.{List, ℕ, Float}
use Rattle.factors.specs.Factor.{FactorPattern, FactorValues}

-- its pattern and its values
abbrev pub pattern_of : List ℕ → List ℕ → List ℕ → FactorPattern
pattern_of offsets columns splits = record { offsets = offsets; columns = columns; splits = splits }

abbrev pub factor_of : List Float → List Float → FactorValues
factor_of diagonal values = record { diagonal = diagonal; values = values }
