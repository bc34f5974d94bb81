-- What the benchmark's entry points work on: as many blocks as all slices have room for.
-- Definitions only.
use Rattle.std.specs.Prelude.{◌≡◌, List, cond, ℕ, ◌*◌, ◌/◌, ◌≤◌, ltb, length, get_or, Float}
use Rattle.std.specs.Float.{Format, nan}
use Rattle.lent.specs.Steps.{each_part}
use Rattle.root.specs.Sqrt.{sqrt}

-- the lesser of two numbers
abbrev pub lesser_of : ℕ → ℕ → ℕ
lesser_of a b = cond (ltb a b) a b

-- as many parts as a has in parts of p, and b and c have in parts of q
abbrev pub fitting_of : ℕ → ℕ → ℕ → ℕ → ℕ → ℕ
fitting_of p a q b c = lesser_of (a / p) (lesser_of (b / q) (c / q))

-- so many, and what they take is there
pub record Fitting (p a q b c count : ℕ) : Type 0 where
  pub is : count ≡ fitting_of p a q b c
  pub first : p * count ≤ a
  pub second : q * count ≤ b
  pub third : q * count ≤ c

-- value i becomes the root of value i of x
unfoldable pub root_at : Format → List Float → ℕ → Float → Float
root_at f x i old = sqrt f (get_or x i nan)

-- as many parts of m values as u, v and out have, each what op makes of those of u and v
abbrev pub parts_of : (List Float → List Float → List Float) → ℕ → List Float → List Float → List Float → List Float
parts_of op m u v out = each_part op m u v (fitting_of m (length u) m (length v) (length out)) out
