-- The promise of `initialize_full` fixes its answer and every lent word: two answers that meet it are the same, and leave the same words.
-- Assumes nothing.
use mathlib.Core.Path.{◌≡◌, refl, sym, ap, ◌∙◌}
use mathlib.Core.List.{List, ◌++◌}
use Prim.Native.Nat.{ℕ, ◌-◌, ◌*◌}
use native.Mathlib.Omega.{arith}
use lib.ListN.{length, replicate}
use Rattle.answers.specs.Numbers.{Answer}
use Rattle.answers.specs.Numbers.{number_of}
use Rattle.answers.proofs.SameAnswer.{same_number}
use Rattle.answers.proofs.EndLaws.{unnamed_number}
use Rattle.fill.specs.Promise.{leaves}
use Rattle.full.specs.Full.{full_offsets, full_columns, full_splits, full_checks, Complete}

pub agree : (n : ℕ) (offsets columns splits : List ℕ) (r q : Answer) (o cs ss o' cs' ss' : List ℕ)
    → Complete n offsets columns splits r o cs ss → Complete n offsets columns splits q o' cs' ss' → (r ≡ q) × (o ≡ o') × (cs ≡ cs') × (ss ≡ ss')
agree n offsets columns splits r q o cs ss o' cs' ss' I J =
    let written : List ℕ = full_columns n n ++ replicate (length columns - n * (n - 1)) 0 in
    let e : number_of r ≡ number_of q = I.number ∙ sym J.number in (
      same_number r q e (λ nine. unnamed_number (full_checks n (length offsets) (length columns) (length splits)) 9 (λ z. omega (arith, z)) refl (sym I.number ∙ nine)),
      I.offsets_are ∙ ap (λ (m : ℕ). leaves m (full_offsets n) offsets) e ∙ sym J.offsets_are,
      I.columns_are ∙ ap (λ (m : ℕ). leaves m written columns) e ∙ sym J.columns_are,
      I.splits_are ∙ ap (λ (m : ℕ). leaves m (full_splits n) splits) e ∙ sym J.splits_are,
    )
