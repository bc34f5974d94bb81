-- Each inverse's promise fixes its answer: two that meet it are the same, where the values of a block fix the block.
-- Assumes nothing.
use mathlib.Core.Path.{◌≡◌, sym, ap, ◌∙◌}
use mathlib.Core.List.{List}
use Prim.Native.Nat.{ℕ}
use native.Mathlib.Omega.{arith}
use lib.Ieee.{Float, Format}
use Rattle.std.specs.Prelude.{Result, Ok, Err}
use Rattle.blocks.specs.declared.NoInverse.{NoInverse}
use Rattle.blocks.specs.Inverse.{inverse_number, inverse_block, Inverted}

same_result : {B : Type 0} (x y : Result B (NoInverse B)) → inverse_number x ≡ inverse_number y → inverse_block x ≡ inverse_block y → x ≡ y
same_result (Ok u) (Ok v) numbers blocks = ap Ok blocks
same_result (Ok u) (Err v) numbers blocks = absurd (omega (arith, numbers))
same_result (Err u) (Ok v) numbers blocks = absurd (omega (arith, numbers))
same_result (Err u) (Err v) numbers blocks = ap (λ block. Err (record { block = block })) blocks

pub same_inverse : {B : Type 0} (f : Format) (n : ℕ) (list : B → List Float) (fixed : (u v : B) → list u ≡ list v → u ≡ v) (a : List Float)
    (x y : Result B (NoInverse B)) → Inverted f n list a x → Inverted f n list a y → x ≡ y
same_inverse f n list fixed a x y p q =
    same_result x y (p.number ∙ sym q.number) (fixed (inverse_block x) (inverse_block y) (p.left ∙ sym q.left))
