-- The calls on words: the promise of each, as all of them have it, of its number.
-- Assumes nothing.
use mathlib.Core.Path.{◌≡◌, refl, ◌∙◌}
use mathlib.Core.List.{List}
use Prim.Native.Nat.{ℕ}
use lib.ListN.{length}
use Rattle.answers.specs.Numbers.{Answer}
use Rattle.answers.specs.Numbers.{number_of}
use Rattle.answers.specs.Checks.{Check}
use Rattle.full.specs.Full.{full_offsets, full_splits, full_checks, Complete}
use Rattle.ilu0.specs.Ilu0.{sorted_splits, ilu0_checks, Sorted}
use Rattle.iluk.specs.Checks.{iluk_checks}
use Rattle.iluk.specs.Iluk.{Initialized}
use Rattle.fill_way.specs.Promise.{Wrote, Cleared, full_columns_in, ilu0_columns, iluk_offsets, iluk_columns, iluk_splits}
use Rattle.fill_way.specs.Ways.{WroteWords}
use Rattle.fill_way.specs.declared.unchecked.Call.{Call}
use Rattle.fill_way.specs.declared.unchecked.Call.TheVariants.{Full, Ilu0, Iluk}
use Rattle.fill_way.proofs.WayLaws.{rechecked}

-- ---- the full pattern

pub told_full : (n : ℕ) (o cs ss : List ℕ) (answer : Answer) (number : ℕ) (o' cs' ss' : List ℕ) → number ≡ number_of answer → Complete n o cs ss answer o' cs' ss'
    → Wrote (full_checks n (length o) (length cs) (length ss)) number (full_offsets n) (full_columns_in n (length cs)) (full_splits n) o cs ss o' cs' ss'
told_full n o cs ss answer number o' cs' ss' is i =
    record { first = is ∙ i.number; offsets_are = rw is i.offsets_are; columns_are = rw is i.columns_are; splits_are = rw is i.splits_are }

pub by_full : (n : ℕ) (starts entries o cs ss : List ℕ) (answer : Answer) (o' cs' ss' : List ℕ) (call : Call) → call ≡ Full → Complete n o cs ss answer o' cs' ss'
    → WroteWords call n starts entries o cs ss (number_of answer) o' cs' ss'
by_full n starts entries o cs ss answer o' cs' ss' call is i = rw is (told_full n o cs ss answer (number_of answer) o' cs' ss' refl i)

-- ---- the sorted rows of A

pub told_ilu0 : (starts entries o cs ss : List ℕ) (answer : Answer) (number : ℕ) (o' cs' ss' : List ℕ) → number ≡ number_of answer
    → Sorted starts entries o cs ss answer o' cs' ss'
    → Wrote (ilu0_checks starts entries (length o) (length cs) (length ss)) number starts (ilu0_columns starts entries (length cs)) (sorted_splits starts entries) o cs ss o' cs' ss'
told_ilu0 starts entries o cs ss answer number o' cs' ss' is i =
    record { first = is ∙ i.number; offsets_are = rw is i.offsets_are; columns_are = rw is i.columns_are; splits_are = rw is i.splits_are }

pub by_ilu0 : (k : ℕ) (starts entries o cs ss : List ℕ) (answer : Answer) (o' cs' ss' : List ℕ) (call : Call) → call ≡ Ilu0 → Sorted starts entries o cs ss answer o' cs' ss'
    → WroteWords call k starts entries o cs ss (number_of answer) o' cs' ss'
by_ilu0 k starts entries o cs ss answer o' cs' ss' call is i = rw is (told_ilu0 starts entries o cs ss answer (number_of answer) o' cs' ss' refl i)

-- ---- the fill at level k
pub told_iluk : (k : ℕ) (starts entries o cs ss ls row : List ℕ) (answer : Answer) (number : ℕ) (o' cs' ss' ls' row' : List ℕ) → number ≡ number_of answer
    → Initialized k starts entries o cs ss ls row answer o' cs' ss' ls' row'
    → (Wrote (iluk_checks k starts entries (length o) (length cs) (length ss) (length ls) (length row)) number
    (iluk_offsets k starts entries) (iluk_columns k starts entries (length cs)) (iluk_splits k starts entries) o cs ss o' cs' ss')
    × (Cleared number ls row ls' row')
told_iluk k starts entries o cs ss ls row answer number o' cs' ss' ls' row' is i = (
  record { first = is ∙ i.number; offsets_are = rw is i.offsets_are; columns_are = rw is i.columns_are; splits_are = rw is i.splits_are },
  record { levels_are = rw is i.levels_are; row_is = rw is i.row_is },
)

pub by_iluk : (k : ℕ) (starts entries o cs ss ls row : List ℕ) (answer : Answer) (o' cs' ss' ls' row' : List ℕ) (call : Call) → call ≡ Iluk
    → length ls ≡ length cs → length row ≡ length ss → Initialized k starts entries o cs ss ls row answer o' cs' ss' ls' row'
    → WroteWords call k starts entries o cs ss (number_of answer) o' cs' ss'
by_iluk k starts entries o cs ss ls row answer o' cs' ss' ls' row' call is el er i =
    let checks : ℕ → ℕ → List Check = iluk_checks k starts entries (length o) (length cs) (length ss) in
    rw is
    (rechecked (checks (length ls) (length row)) (checks (length cs) (length ss)) (number_of answer) _ _ _ o cs ss o' cs' ss' (rw (el, er))
    (told_iluk k starts entries o cs ss ls row answer (number_of answer) o' cs' ss' ls' row' refl i).0)
