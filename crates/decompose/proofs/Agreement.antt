-- The promise of `decompose_N` fixes its answer and every lent word: two answers that meet it are the same, the row of 9 included, and leave the same words.
-- Assumes nothing.
use mathlib.Core.Path.{◌≡◌, sym, ap, ◌∙◌}
use mathlib.Core.List.{[]}
use mathlib.Core.Bool.{cond, ◌||◌}
use Prim.Native.Nat.{ℕ}
use lib.Dec.{eqb}
use lib.Ieee.{Format}
use Rattle.answers.specs.Numbers.{Answer}
use Rattle.answers.specs.Numbers.{number_of}
use Rattle.answers.proofs.SameAnswer.{same_answer}
use Rattle.factors.specs.Factor.{FactorPattern, FactorValues, decompose}
use Rattle.decompose.specs.Promise.{stopped_rows, Decomposes}

pub agree : (f : Format) (n : ℕ) (t : FactorPattern) (old : FactorValues) (a b : Answer) (x y : FactorValues)
    → Decomposes f n t old a x → Decomposes f n t old b y → (a ≡ b) × (x ≡ y)
agree f n t old a b x y p q =
    let e : number_of a ≡ number_of b = p.number ∙ sym q.number in (
      same_answer a b e (p.row ∙ ap (λ (k : ℕ). cond (eqb k 9) (stopped_rows (decompose f n t old).stopped) []) e ∙ sym q.row),
      p.lent ∙ ap (λ (k : ℕ). cond (eqb k 0 || eqb k 9) (decompose f n t old).left old) e ∙ sym q.lent,
    )
