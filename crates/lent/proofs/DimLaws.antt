-- A size's N is 1, 2 or 3.
-- Assumes nothing.
use Prim.Native.Nat.{ℕ}
use Rattle.blocks.specs.Size.{SizeLaws}
use Rattle.lent.specs.Steps.{Dim}

pub dim_of : {n row block : ℕ} → SizeLaws n row block → Dim n
dim_of laws = record { least = laws.least; most = laws.most }
