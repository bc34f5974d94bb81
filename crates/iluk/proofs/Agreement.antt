-- The promise of `initialize_iluk` fixes its answer and every lent word: two answers that meet it are the same, and leave the same words.
-- Assumes nothing.
use mathlib.Core.Path.{◌≡◌, refl, sym, ap, ◌∙◌}
use mathlib.Core.List.{List}
use Prim.Native.Nat.{ℕ}
use native.Mathlib.Omega.{arith}
use lib.ListN.{length}
use Rattle.answers.specs.Numbers.{Answer}
use Rattle.answers.specs.Numbers.{number_of}
use Rattle.answers.proofs.SameAnswer.{same_number}
use Rattle.answers.proofs.EndLaws.{unnamed_number}
use Rattle.patterns.specs.Pattern.{rows_of}
use Rattle.fill.specs.Fill.{stored, fill_offsets, fill_splits}
use Rattle.fill.specs.Promise.{cleared, leaves}
use Rattle.iluk.specs.Checks.{iluk_checks}
use Rattle.iluk.specs.Iluk.{columns_in, Initialized}

pub agree : (k : ℕ) (starts entries offsets columns splits levels row : List ℕ) (r q : Answer) (o cs ss ls w o' cs' ss' ls' w' : List ℕ)
    → Initialized k starts entries offsets columns splits levels row r o cs ss ls w → Initialized k starts entries offsets columns splits levels row q o' cs' ss' ls' w'
    → (r ≡ q) × (o ≡ o') × (cs ≡ cs') × (ss ≡ ss') × (ls ≡ ls') × (w ≡ w')
agree k starts entries offsets columns splits levels row r q o cs ss ls w o' cs' ss' ls' w' I J =
    let A = stored starts entries in
    let n : ℕ = rows_of starts in
    let e : number_of r ≡ number_of q = I.number ∙ sym J.number in (
      same_number r q e (λ nine. unnamed_number (iluk_checks k starts entries (length offsets) (length columns) (length splits) (length levels) (length row)) 9
          (λ z. omega (arith, z)) refl (sym I.number ∙ nine)),
      I.offsets_are ∙ ap (λ (m : ℕ). leaves m (fill_offsets A k n) offsets) e ∙ sym J.offsets_are,
      I.columns_are ∙ ap (λ (m : ℕ). leaves m (columns_in A k n (length columns)) columns) e ∙ sym J.columns_are,
      I.splits_are ∙ ap (λ (m : ℕ). leaves m (fill_splits A k n) splits) e ∙ sym J.splits_are,
      I.levels_are ∙ ap (λ (m : ℕ). leaves m (cleared levels) levels) e ∙ sym J.levels_are,
      I.row_is ∙ ap (λ (m : ℕ). leaves m (cleared row) row) e ∙ sym J.row_is,
    )
