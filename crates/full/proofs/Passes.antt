-- Every pattern that `initialize_full` writes passes `check_factor`.
-- Assumes nothing.
use mathlib.Core.Path.{◌≡◌, refl, sym, ◌∙◌}
use mathlib.Core.Logic.{◌⊎◌, inl, inr}
use mathlib.Core.List.{List}
use Prim.Native.Nat.{ℕ, zero, suc, ◌+◌, ◌-◌, ◌*◌, ◌≤◌, ◌<◌}
use native.Mathlib.Omega.{arith}
use lib.Dec.{ltb}
use lib.ListN.{length, get_or, take, replicate, length-append, get_or-append}
use lib.Seq.{take_at, get_or-append-add}
use borrow.Author.Tests.{ltb-false}
use Rattle.std.specs.Prelude.{Ok}
use Rattle.base.proofs.All.{or_left, or_right}
use Rattle.answers.specs.Checks.{first_of}
use Rattle.patterns.specs.Pattern.{split_of}
use Rattle.patterns.specs.Checks.{factor_checks}
use Rattle.walks.proofs.Highest.{le_or_lt}
use Rattle.fill.specs.Fill.{joined, listed}
use Rattle.fill.proofs.OutputLaws.{outputs_are}
use Rattle.fill.proofs.DoneLaws.{zero_fails}
use Rattle.fill.proofs.FactorLaws.{FactorRow, Starts, length_listed, listed_at, listed_starts, split_of_lem, joined_passes}
use Rattle.fill.proofs.Meaning.{get_d_listed}
use Rattle.full.specs.Full.{others, full_columns, full_offsets, full_splits, full_checks, Complete}

one_longer : (i n : ℕ) → 1 ≤ n → i * n ≡ i * (n - 1) + i
one_longer i zero h = absurd (omega arith)
one_longer i (suc m) h = let e : suc m - 1 ≡ m = omega arith in rw e (omega arith)

-- the column at a place of row i: the place below i, and the next one from i on
abbrev At : ℕ → ℕ → ℕ → Type 0
At n i e = ((e < i) × (get_or (others n i) e 0 ≡ e)) ⊎ ((i ≤ e) × (get_or (others n i) e 0 ≡ suc e))

module _ (n : ℕ) where
  pub length_others : (i : ℕ) → i < n → length (others n i) ≡ n - 1
  unfolding others
  length_others i h =
      omega (
        arith,
        length-append (listed (λ c. c) 0 i) (listed (λ c. c) (suc i) (n - suc i)),
        length_listed (λ c. c) 0 i,
        length_listed (λ c. c) (suc i) (n - suc i),
      )

  -- i rows have i * (n - 1) columns
  pub length_full : (i : ℕ) → i ≤ n → length (joined (others n) i) ≡ i * (n - 1)
  unfolding joined
  length_full zero h = omega arith
  length_full (suc i) h =
      omega (arith, length-append (joined (others n) i) (others n i), length_full i (omega arith), length_others i h)

  other_at : (i e : ℕ) → i < n → e < length (others n i) → At n i e
  unfolding others
  other_at i e h b = go (le_or_lt i e)
    where
      go : (i ≤ e) ⊎ (e < i) → At n i e
      go (inl q) =
          let low = listed (λ c. c) 0 i in
          let long : length low ≡ i = length_listed (λ c. c) 0 i in
          let place : length low + (e - i) ≡ e = omega arith in
          let next : suc i + (e - i) ≡ suc e = omega arith in
          let at = get_or-append-add low (listed (λ c. c) (suc i) (n - suc i)) (e - i) 0 in
          inr (q, rw place at at ∙ get_d_listed (λ c. c) (suc i) (n - suc i) (e - i) (omega (arith, length_others i h)) ∙ next)
      go (inr q) = inl (q, get_or-append (listed (λ c. c) 0 i) (listed (λ c. c) (suc i) (n - suc i)) 0 e (omega (arith, length_listed (λ c. c) 0 i)) ∙ listed_at (λ c. c) i e q)

  others_row : (i : ℕ) → i < n → FactorRow n i (others n i)
  others_row i h = record {
    rising = λ e b. rise e (other_at i e h (omega arith)) (other_at i (suc e) h b);
    below = λ e b. small e b (other_at i e h b);
    apart = λ e b q. absurd (own e q (other_at i e h b));
  }
    where
      rise : (e : ℕ) → At n i e → At n i (suc e) → get_or (others n i) e 0 < get_or (others n i) (suc e) 0
      rise e (inl p) (inl q) = omega (arith, p.1, q.1)
      rise e (inl p) (inr q) = omega (arith, p.1, q.1)
      rise e (inr p) (inl q) = absurd (omega (arith, p.0, q.0))
      rise e (inr p) (inr q) = omega (arith, p.1, q.1)

      small : (e : ℕ) → e < length (others n i) → At n i e → get_or (others n i) e 0 < n
      small e b (inl p) = omega (arith, p.0, p.1)
      small e b (inr p) = omega (arith, p.1, length_others i h)

      own : (e : ℕ) → get_or (others n i) e 0 ≡ i → At n i e → ⊥
      own e q (inl p) = absurd (omega (arith, p.0, p.1))
      own e q (inr p) = absurd (omega (arith, p.0, p.1))

  full_starts : Starts (others n) n (full_offsets n)
  unfolding full_offsets
  full_starts = listed_starts (others n) (λ i. i * (n - 1)) n (λ i h. sym (length_full i h))

  -- "split i*n"
  full_split : (i : ℕ) → i < n → get_or (full_splits n) i 0 ≡ split_of (full_offsets n) (joined (others n) n) i
  unfolding full_splits others
  full_split i h =
      let low = listed (λ c. c) 0 i in
      let high = listed (λ c. c) (suc i) (n - suc i) in
      let long : length low ≡ i = length_listed (λ c. c) 0 i in
      let longer : length high ≡ n - suc i = length_listed (λ c. c) (suc i) (n - suc i) in
      let place = split_of_lem (others n) n (full_offsets n) full_starts i h low high refl
      (λ e b. omega (arith, listed_at (λ c. c) i e (omega arith))) (λ e b. omega (arith, get_d_listed (λ c. c) (suc i) (n - suc i) e (omega arith))) in
      omega (arith, listed_at (λ k. k * n) n i h, place, length_full i (omega arith), one_longer i n (omega arith))

  pub full_passes : 1 ≤ n → n ≤ 4096 → n * (n - 1) ≤ 65535 → first_of (factor_checks (full_offsets n) (full_columns n n) (full_splits n)) ≡ 0
  unfolding full_columns full_splits
  full_passes least few room =
      joined_passes (others n) n (full_offsets n) full_starts others_row (full_splits n) full_split least few (omega (arith, length_full n (omega arith), room))
      (length_listed (λ i. i * n) 0 n)

module _ (n : ℕ) (offsets columns splits offsets' columns' splits' : List ℕ) (C : Complete n offsets columns splits (Ok tt) offsets' columns' splits') where
  -- the columns up to the last offset: past them the room is clear
  pub done_columns : take (get_or offsets' n 0) columns' ≡ full_columns n n
  unfolding full_offsets full_columns
  done_columns =
      rw (C.offsets_are, C.columns_are)
      (take_at (full_columns n n) (replicate (length columns - n * (n - 1)) 0) (get_or (full_offsets n) n 0) (length_full n n (omega arith) ∙ sym (listed_at (λ i. i * (n - 1)) (n + 1) n (omega arith))))

  pub done_passes : first_of (factor_checks offsets' (take (get_or offsets' n 0) columns') splits') ≡ 0
  done_passes =
      let F = zero_fails (full_checks n (length offsets) (length columns) (length splits)) refl (sym C.number) in
      let least = ltb-false n 1 (or_left (ltb n 1) (ltb 4096 n) F.0) in
      let few = ltb-false 4096 n (or_right (ltb n 1) (ltb 4096 n) F.0) in
      let room = (outputs_are n (length offsets) (length columns) (length splits) F.1.0).room in
      let fits = ltb-false (length columns) (n * (n - 1)) F.1.1.0 in
      rw (done_columns, C.offsets_are, C.splits_are) (full_passes n least few (omega arith))
