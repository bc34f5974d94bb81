-- `initialize_ilu0` answers and leaves what `initialize_iluk` does at k = 0, whose levels are as long as the room and whose row has n words.
-- Assumes nothing.
use mathlib.Core.Path.{◌≡◌, refl, sym, ap, ◌∙◌}
use mathlib.Core.List.{List, ◌++◌}
use mathlib.Core.Bool.{Bool, true, false}
use Prim.Native.Nat.{ℕ, zero, suc, ◌+◌, ◌-◌, ◌≤◌}
use native.Mathlib.Omega.{arith}
use lib.Dec.{eqb}
use lib.ListN.{length, replicate}
use borrow.Author.Tests.{eq-eqb, ne_eqb, not-false}
use Rattle.std.specs.Prelude.{Ok}
use Rattle.answers.specs.Numbers.{Answer}
use Rattle.answers.specs.Numbers.{number_of}
use Rattle.answers.specs.Checks.{first_of}
use Rattle.answers.specs.Limits.{entries_out_of_range}
use Rattle.answers.proofs.SameAnswer.{same_number}
use Rattle.answers.proofs.EndLaws.{unnamed_number}
use Rattle.patterns.specs.Pattern.{rows_of, valid_pattern}
use Rattle.patterns.specs.Checks.{too_large}
use Rattle.patterns.proofs.SizeLaws.{rows_least, rows_most}
use Rattle.fill.specs.Fill.{stored, fill_offsets, fill_splits}
use Rattle.fill.specs.Promise.{leaves, wrong_outputs}
use Rattle.fill.proofs.DoneLaws.{zero_fails}
use Rattle.iluk.specs.Checks.{wrong_lengths, iluk_checks}
use Rattle.iluk.specs.Iluk.{columns_in, Initialized}
use Rattle.iluk.proofs.AnswerLaws.{no_level_passes}
use Rattle.ilu0.specs.Ilu0.{sorted_rows, sorted_splits, ilu0_checks, Sorted}
use Rattle.ilu0.proofs.AtZero.{offsets_at_zero, columns_at_zero, splits_at_zero, entries_at_zero}

-- check 2, where the work slices have their lengths
same_lengths : (n o cs ss : ℕ) → wrong_lengths n o cs ss cs n ≡ wrong_outputs n o cs ss
same_lengths n o cs ss = go (eqb o (n + 1)) (entries_out_of_range cs) (eqb ss n) refl refl refl
  where
    go : (a b c : Bool) → eqb o (n + 1) ≡ a → entries_out_of_range cs ≡ b → eqb ss n ≡ c → wrong_lengths n o cs ss cs n ≡ wrong_outputs n o cs ss
    go false b c p q r = rw p
    go true true c p q r = rw (p, q)
    go true false false p q r = rw (p, q, r)
    go true false true p q r = rw (p, q, r, eq-eqb cs cs refl, eq-eqb n n refl)

-- what a call leaves rests on the new words only where its number is 0
leaves_same : (number : ℕ) (new new' old : List ℕ) → (number ≡ 0 → new ≡ new') → leaves number new old ≡ leaves number new' old
leaves_same zero new new' old same = same refl
leaves_same (suc m) new new' old same = rw (ne_eqb (suc m) 0 (λ e. absurd (omega (arith, e))))

module _ (starts entries : List ℕ) where
  -- The numbers are the same, whatever is lent.
  pub same_first : (offsets columns splits levels row : ℕ) → levels ≡ columns → row ≡ rows_of starts
      → first_of (ilu0_checks starts entries offsets columns splits) ≡ first_of (iluk_checks 0 starts entries offsets columns splits levels row)
  same_first offsets columns splits levels row long rows = rw (long, rows) (go (too_large (length starts) (length entries)) (valid_pattern starts entries) refl refl)
    where
      go : (a d : Bool) → too_large (length starts) (length entries) ≡ a → valid_pattern starts entries ≡ d
          → first_of (ilu0_checks starts entries offsets columns splits) ≡ first_of (iluk_checks 0 starts entries offsets columns splits columns (rows_of starts))
      go true d p q = rw p
      go false false p q = rw (p, q, same_lengths (rows_of starts) offsets columns splits)
      go false true p q =
          rw (
            p,
            q,
            same_lengths (rows_of starts) offsets columns splits,
            no_level_passes (stored starts entries) 0 (rows_of starts) (rows_most (length starts) (length entries) p),
            entries_at_zero starts entries q (rows_least (length starts) (length entries) p),
          )

  -- And so is all that is written.
  module _ (offsets columns splits : ℕ) (done : first_of (ilu0_checks starts entries offsets columns splits) ≡ 0) where
    pub sized : too_large (length starts) (length entries) ≡ false
    sized = (zero_fails (ilu0_checks starts entries offsets columns splits) refl done).0

    some_rows : 1 ≤ rows_of starts
    some_rows = rows_least (length starts) (length entries) sized

    pub valid : valid_pattern starts entries ≡ true
    valid = not-false _ (zero_fails (ilu0_checks starts entries offsets columns splits) refl done).1.1.0

    same_offsets : starts ≡ fill_offsets (stored starts entries) 0 (rows_of starts)
    same_offsets = sym (offsets_at_zero starts entries valid some_rows)

    same_columns : (room : ℕ) → sorted_rows starts entries (rows_of starts) ++ replicate (room - length entries) 0 ≡ columns_in (stored starts entries) 0 (rows_of starts) room
    same_columns room = rw (columns_at_zero starts entries valid some_rows, entries_at_zero starts entries valid some_rows)

    same_splits : sorted_splits starts entries ≡ fill_splits (stored starts entries) 0 (rows_of starts)
    same_splits = sym (splits_at_zero starts entries valid some_rows)

-- A call of each that is done, on the same A and with as much room, leaves the same pattern.
pub same_pattern : (starts entries offsets columns splits o cs ss offsets' columns' splits' levels row o' cs' ss' ls' w' : List ℕ) → length columns ≡ length columns'
    → Sorted starts entries offsets columns splits (Ok tt) o cs ss → Initialized 0 starts entries offsets' columns' splits' levels row (Ok tt) o' cs' ss' ls' w'
    → (o ≡ o') × (cs ≡ cs') × (ss ≡ ss')
same_pattern starts entries offsets columns splits o cs ss offsets' columns' splits' levels row o' cs' ss' ls' w' room S I =
    let done = sym S.number in (
      S.offsets_are ∙ same_offsets starts entries (length offsets) (length columns) (length splits) done ∙ sym I.offsets_are,
      S.columns_are ∙ same_columns starts entries (length offsets) (length columns) (length splits) done (length columns)
          ∙ ap (columns_in (stored starts entries) 0 (rows_of starts)) room ∙ sym I.columns_are,
      S.splits_are ∙ same_splits starts entries (length offsets) (length columns) (length splits) done ∙ sym I.splits_are,
    )

-- Any call of each, on the same lent words, answers the same and leaves the same.
pub same_call : (starts entries offsets columns splits levels row o cs ss o' cs' ss' ls' w' : List ℕ) (r q : Answer) → length levels ≡ length columns → length row ≡ rows_of starts
    → Sorted starts entries offsets columns splits r o cs ss → Initialized 0 starts entries offsets columns splits levels row q o' cs' ss' ls' w'
    → (r ≡ q) × (o ≡ o') × (cs ≡ cs') × (ss ≡ ss')
same_call starts entries offsets columns splits levels row o cs ss o' cs' ss' ls' w' r q long rows S I =
    let a : ℕ = length offsets in
    let b : ℕ = length columns in
    let c : ℕ = length splits in
    let A = stored starts entries in
    let n : ℕ = rows_of starts in
    let e : number_of r ≡ number_of q = S.number ∙ same_first starts entries a b c (length levels) (length row) long rows ∙ sym I.number in (
      same_number r q e (λ nine. unnamed_number (ilu0_checks starts entries a b c) 9 (λ z. omega (arith, z)) refl (sym S.number ∙ nine)),
      S.offsets_are ∙ leaves_same (number_of r) starts (fill_offsets A 0 n) offsets (λ z. same_offsets starts entries a b c (sym S.number ∙ z))
          ∙ ap (λ (m : ℕ). leaves m (fill_offsets A 0 n) offsets) e ∙ sym I.offsets_are,
      S.columns_are ∙ leaves_same (number_of r) _ (columns_in A 0 n b) columns (λ z. same_columns starts entries a b c (sym S.number ∙ z) b)
          ∙ ap (λ (m : ℕ). leaves m (columns_in A 0 n b) columns) e ∙ sym I.columns_are,
      S.splits_are ∙ leaves_same (number_of r) (sorted_splits starts entries) (fill_splits A 0 n) splits (λ z. same_splits starts entries a b c (sym S.number ∙ z))
          ∙ ap (λ (m : ℕ). leaves m (fill_splits A 0 n) splits) e ∙ sym I.splits_are,
    )
