-- What a size is: N is 1, 2 or 3, a row has N values, and a block N * N.
-- Definitions only.
use Rattle.std.specs.Prelude.{◌≡◌, ℕ, ◌*◌, ◌≤◌}

pub record SizeLaws (n row block : ℕ) : Type 0 where
  pub least : 1 ≤ n
  pub most : n ≤ 3
  pub row_long : row ≡ n
  pub block_long : block ≡ n * n
