-- The promise of `initialize_ilu0` fixes its answer and every lent word: two answers that meet it are the same, and leave the same words.
-- Assumes nothing.
use mathlib.Core.Path.{◌≡◌, refl, sym, ap, ◌∙◌}
use mathlib.Core.List.{List, ◌++◌}
use Prim.Native.Nat.{ℕ, ◌-◌}
use native.Mathlib.Omega.{arith}
use lib.ListN.{length, replicate}
use Rattle.answers.specs.Numbers.{Answer}
use Rattle.answers.specs.Numbers.{number_of}
use Rattle.answers.proofs.SameAnswer.{same_number}
use Rattle.answers.proofs.EndLaws.{unnamed_number}
use Rattle.patterns.specs.Pattern.{rows_of}
use Rattle.fill.specs.Promise.{leaves}
use Rattle.ilu0.specs.Ilu0.{sorted_rows, sorted_splits, ilu0_checks, Sorted}

pub agree : (starts entries offsets columns splits : List ℕ) (r q : Answer) (o cs ss o' cs' ss' : List ℕ)
    → Sorted starts entries offsets columns splits r o cs ss → Sorted starts entries offsets columns splits q o' cs' ss' → (r ≡ q) × (o ≡ o') × (cs ≡ cs') × (ss ≡ ss')
agree starts entries offsets columns splits r q o cs ss o' cs' ss' I J =
    let written : List ℕ = sorted_rows starts entries (rows_of starts) ++ replicate (length columns - length entries) 0 in
    let e : number_of r ≡ number_of q = I.number ∙ sym J.number in (
      same_number r q e (λ nine. unnamed_number (ilu0_checks starts entries (length offsets) (length columns) (length splits)) 9 (λ z. omega (arith, z)) refl (sym I.number ∙ nine)),
      I.offsets_are ∙ ap (λ (m : ℕ). leaves m starts offsets) e ∙ sym J.offsets_are,
      I.columns_are ∙ ap (λ (m : ℕ). leaves m written columns) e ∙ sym J.columns_are,
      I.splits_are ∙ ap (λ (m : ℕ). leaves m (sorted_splits starts entries) splits) e ∙ sym J.splits_are,
    )
