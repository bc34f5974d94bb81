-- Each way in which the quick check finds a row right, and the turns of its loops.
-- Assumes nothing.
use mathlib.Core.Path.{◌≡◌, refl, ap, ◌∙◌}
use mathlib.Core.Logic.{⊎_elim}
use mathlib.Core.List.{List}
use mathlib.Core.Bool.{Bool, true, false, cond, ◌&&◌}
use Prim.Native.Nat.{ℕ, ◌+◌, ◌-◌, ◌≤◌, ◌<◌}
use native.Mathlib.Nat.{le_of_suc-le-suc, eq-or-lt_of_le}
use native.Mathlib.Omega.{arith}
use lib.Dec.{ltb, leb}
use lib.ListN.{length, get_or}
use borrow.Author.Tests.{ltb-true, lt-ltb, le-ltb}
use Rattle.base.proofs.All.{and_left, and_right}
use Rattle.patterns.specs.Pattern.{rows_of}
use Rattle.factor_check.specs.Steps.{one_if, count_to, falls_at, end_falls_at, Apart, RightRow, RightRowAt}
use Rattle.factor_check.proofs.CountLaws.{count_more}
use Rattle.factor_check.proofs.FallLaws.{end_is, end_none}

-- a test that fails shows nothing
pub unsure : {A : Type 0} → false ≡ true → A
unsure e = absurd (omega (arith, ap {B = ℕ} (λ (b : Bool). cond b 1 0) e))

-- The steps of all columns: one more, and after the last.
module _ (cs : List ℕ) (e count : ℕ) (so : count ≡ count_to (falls_at cs) e) where
  pub falls_more : (more : ℕ) → e + 1 < length cs → more ≡ one_if (leb (get_or cs (e + 1) 0) (get_or cs e 0)) → count + more ≡ count_to (falls_at cs) (e + 1)
  unfolding falls_at
  falls_more more inside is = rw (count_more (falls_at cs) e, so, is, lt-ltb (e + 1) (length cs) inside)

  pub falls_end : e ≤ length cs → length cs ≤ e + 1 → count ≡ count_to (falls_at cs) (length cs)
  unfolding falls_at
  falls_end within past = ⊎_elim here there (eq-or-lt_of_le within)
    where
      here : e ≡ length cs → count ≡ count_to (falls_at cs) (length cs)
      here is = rw is at so

      there : e < length cs → count ≡ count_to (falls_at cs) (length cs)
      there inside =
          let next : e + 1 ≡ length cs = omega arith in
          let none : count_to (falls_at cs) (e + 1) ≡ count_to (falls_at cs) e + 0 = rw (count_more (falls_at cs) e, le-ltb (e + 1) (length cs) past) in
          omega (arith, so, rw next at none)

-- A row without columns, one that ends with the columns, and any other.
module _ (n i a s b : ℕ) (cs : List ℕ) (apart : Apart i a s b cs) where
  pub empty_right : b ≤ length cs → a ≡ b → RightRow n i a s b cs 0
  empty_right within none =
      record { apart = apart; within = within; last = λ some. absurd (omega (arith, none, some)); counted = rw (end_none cs a b (omega arith)) }

  module _ (some : a < b) (last : get_or cs (b - 1) 0 < n) where
    pub final_right : b ≡ length cs → RightRow n i a s b cs 0
    unfolding falls_at
    final_right end =
        let e : b - 1 + 1 ≡ b = omega arith in
        record { apart = apart; within = omega arith; last = λ _. last; counted = rw (end_is cs a b some, e, le-ltb b (length cs) (omega arith)) }

    pub row_right_lem : (count : ℕ) → b < length cs → count ≡ one_if (leb (get_or cs b 0) (get_or cs (b - 1) 0)) → RightRow n i a s b cs count
    unfolding falls_at
    row_right_lem count inside is =
        let e : b - 1 + 1 ≡ b = omega arith in
        record { apart = apart; within = omega arith; last = λ _. last; counted = is ∙ rw (end_is cs a b some, e, lt-ltb b (length cs) inside) }

-- a row with columns on both sides of its split, and more after it: the three tests at once
pub common_right : (n i a s b : ℕ) (cs : List ℕ) (count : ℕ) → a < s → s < b → b < length cs
    → (ltb (get_or cs (s - 1) 0) i && ltb i (get_or cs s 0) && ltb (get_or cs (b - 1) 0) n) ≡ true
    → count ≡ one_if (leb (get_or cs b 0) (get_or cs (b - 1) 0)) → RightRow n i a s b cs count
common_right n i a s b cs count from to inside tests is =
    let beside = and_left (ltb (get_or cs (s - 1) 0) i && ltb i (get_or cs s 0)) (ltb (get_or cs (b - 1) 0) n) tests in
    let apart : Apart i a s b cs =
    record {
      from = omega arith;
      to = omega arith;
      low = λ _. ltb-true _ _ (and_left (ltb (get_or cs (s - 1) 0) i) (ltb i (get_or cs s 0)) beside);
      high = λ _. ltb-true _ _ (and_right (ltb (get_or cs (s - 1) 0) i) (ltb i (get_or cs s 0)) beside);
    } in
    row_right_lem n i a s b cs apart (omega arith)
    (ltb-true _ _ (and_right (ltb (get_or cs (s - 1) 0) i && ltb i (get_or cs s 0)) (ltb (get_or cs (b - 1) 0) n) tests)) count inside is

-- what is found with the ends that are read is said of row i
pub row_at : (o cs s : List ℕ) (i n a split b more : ℕ) → n ≡ rows_of o → a ≡ get_or o i 0 → split ≡ get_or s i 0 → b ≡ get_or o (i + 1) 0 → RightRow n i a split b cs more
    → (RightRowAt o cs s i) × (more ≡ one_if (end_falls_at o cs i))
unfolding end_falls_at
row_at o cs s i n a split b more pn pa ps pb right =
    let r : RightRow (rows_of o) i (get_or o i 0) (get_or s i 0) (get_or o (i + 1) 0) cs more = rw (pn, pa, ps, pb) at right in
    (record { apart = r.apart; within = r.within; last = r.last; counted = refl }, r.counted)

-- one row more
pub rows_more : (P : ℕ → Type 0) (i : ℕ) → ((k : ℕ) → k < i → P k) → P i → (k : ℕ) → k < i + 1 → P k
rows_more P i before here k h = ⊎_elim (λ e. rw e here) (λ less. before k less) (eq-or-lt_of_le (le_of_suc-le-suc (omega arith)))
