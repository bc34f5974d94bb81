-- What the decomposition on lent bytes leaves of them.
-- Definitions only.
use Rattle.std.specs.Prelude.{cond, ◌||◌, List, ℕ, eqb, Float}
use Rattle.std.specs.Float.{Format}
use Rattle.factors.specs.Factor.{FactorValues}
use Rattle.wire.specs.Bytes.{bytes_of}

-- the values of a factor as bytes: those of its diagonal, then those of its entries
abbrev pub factor_bytes : Format → FactorValues → List ℕ × List ℕ
factor_bytes f s = (bytes_of f s.diagonal, bytes_of f s.values)

-- what a call whose number is k leaves of bytes over which it writes values: they are encoded after 0 and 9
abbrev pub left_over : Format → ℕ → List Float → List ℕ → List ℕ
left_over f k values bytes = cond (eqb k 0 || eqb k 9) (bytes_of f values) bytes
