-- A true split: in a row that rises, the columns on both sides of a place tell whether it is the first whose column exceeds the row's own.
-- Assumes nothing.
use mathlib.Core.Path.{◌≡◌, refl, sym, ◌∙◌}
use mathlib.Core.List.{List, [], ◌∷◌}
use mathlib.Core.Bool.{Bool, true, false, cond}
use Prim.Native.Nat.{ℕ, zero, suc, ◌+◌, ◌-◌, ◌≤◌, ◌<◌}
use native.Mathlib.Nat.{not-suc-le-zero}
use native.Mathlib.Omega.{arith}
use lib.ListN.{length, get_or}
use lib.Dec.{ltb, leb, eqb}
use borrow.Author.Tests.{leb-true, leb-false, ltb-true, ltb-false, eq-eqb, ne_eqb}
use Rattle.base.specs.First.{first_in}
use Rattle.base.proofs.All.{all_at}
use Rattle.patterns.specs.Pattern.{rises}
use Rattle.patterns.specs.Steps.{first_above}

-- What a search finds: a place or the end; the test holds there, and not before.
module _ (p : ℕ → Bool) where
  within_step : (b : Bool) (n m : ℕ) → n ≤ m → cond b 0 (suc n) ≤ suc m
  within_step true n m h = omega arith
  within_step false n m h = omega arith

  found_within : (l : List ℕ) → first_in p l ≤ length l
  unfolding first_in
  found_within [] = omega arith
  found_within (x ∷ l) = within_step (p x) (first_in p l) (length l) (found_within l)

  holds_step : (b : Bool) (x : ℕ) (l : List ℕ) (n : ℕ) → p x ≡ b → (n < length l → p (get_or l n 0) ≡ true)
      → cond b 0 (suc n) < suc (length l) → p (get_or (x ∷ l) (cond b 0 (suc n)) 0) ≡ true
  holds_step true x l n is later h = is
  holds_step false x l n is later h = later (omega arith)

  found_holds : (l : List ℕ) → first_in p l < length l → p (get_or l (first_in p l) 0) ≡ true
  unfolding first_in
  found_holds [] h = absurd (not-suc-le-zero h)
  found_holds (x ∷ l) h = holds_step (p x) x l (first_in p l) refl (found_holds l) h

  before_step : (b : Bool) (x : ℕ) (l : List ℕ) (n : ℕ) → p x ≡ b → ((j : ℕ) → j < n → p (get_or l j 0) ≡ false)
      → (j : ℕ) → j < cond b 0 (suc n) → p (get_or (x ∷ l) j 0) ≡ false
  before_step true x l n is later j h = absurd (not-suc-le-zero h)
  before_step false x l n is later zero h = is
  before_step false x l n is later (suc j) h = later j (omega arith)

  found_first : (l : List ℕ) (j : ℕ) → j < first_in p l → p (get_or l j 0) ≡ false
  unfolding first_in
  found_first [] j h = absurd (not-suc-le-zero h)
  found_first (x ∷ l) j h = before_step (p x) x l (first_in p l) refl (found_first l) j h

-- A row that rises.
module _ (row : List ℕ) (rising : rises row ≡ true) where
  step : (k : ℕ) → k + 1 < length row → get_or row k 0 < get_or row (k + 1) 0
  unfolding rises
  step k h = ltb-true _ _ (all_at _ k (length row - 1) rising (omega arith))

  up : (j d : ℕ) → j + d < length row → get_or row j 0 ≤ get_or row (j + d) 0
  up j zero h = rw (same) (omega arith)
    where
      same : j + 0 ≡ j
      same = omega arith
  up j (suc d) h =
      let e : j + suc d ≡ (j + d) + 1 = omega arith in
      rw e (omega (arith, up j d (omega arith), step (j + d) (omega arith)))

  pub rising_le : (j k : ℕ) → j ≤ k → k < length row → get_or row j 0 ≤ get_or row k 0
  rising_le j k h l =
      let e : j + (k - j) ≡ k = omega arith in
      rw e at (up j (k - j) (omega arith))

same_by : (a b : ℕ) → (a < b → ⊥) → (b < a → ⊥) → a ≡ b
same_by a b p q = go (ltb a b) refl (ltb b a) refl
  where
    go : (s : Bool) → ltb a b ≡ s → (t : Bool) → ltb b a ≡ t → a ≡ b
    go true e t f = absurd (p (ltb-true a b e))
    go false e true f = absurd (q (ltb-true b a f))
    go false e false f = omega (arith, ltb-false a b e, ltb-false b a f)

module _ (row : List ℕ) (own k : ℕ) where
  pub not_past : length row < k → eqb k (first_above own row) ≡ false
  not_past h = ne_eqb k (first_above own row) (λ e. absurd (omega (arith, e, h, found_within (λ column. ltb own column) row)))

  -- a column at k that doesn't exceed
  pub not_below : k < length row → get_or row k 0 ≤ own → eqb k (first_above own row) ≡ false
  not_below h low = ne_eqb k (first_above own row) wrong
    where
      wrong : k ≡ first_above own row → ⊥
      wrong e =
          let at : ltb own (get_or row k 0) ≡ true = rw e (found_holds (λ column. ltb own column) row (omega arith)) in
          absurd (omega (arith, ltb-true own (get_or row k 0) at))

  -- a column before k that does
  pub not_after : 1 ≤ k → own < get_or row (k - 1) 0 → eqb k (first_above own row) ≡ false
  not_after h high = ne_eqb k (first_above own row) wrong
    where
      wrong : k ≡ first_above own row → ⊥
      wrong e =
          absurd (omega (arith, ltb-false own (get_or row (k - 1) 0) (found_first (λ column. ltb own column) row (k - 1) (omega arith))))

  -- the columns on both sides of k, where there are any, are right
  pub is_first : rises row ≡ true → k ≤ length row → (k < length row → own < get_or row k 0) → (1 ≤ k → get_or row (k - 1) 0 ≤ own)
      → eqb k (first_above own row) ≡ true
  is_first rising within high low = eq-eqb k (first_above own row) (same_by k (first_above own row) less more)
    where
      less : k < first_above own row → ⊥
      less h =
          let inside : k < length row = omega (arith, found_within (λ column. ltb own column) row) in
          absurd (omega (arith, high inside, ltb-false own (get_or row k 0) (found_first (λ column. ltb own column) row k h)))

      more : first_above own row < k → ⊥
      more h =
          let at : own < get_or row (first_above own row) 0 = ltb-true own (get_or row (first_above own row) 0) (found_holds (λ column. ltb own column) row (omega arith)) in
          absurd (omega (arith, low (omega arith), at, rising_le row rising (first_above own row) (k - 1) (omega arith) (omega arith)))

  -- the column before k decides, if all else is right
  pub before_decides : rises row ≡ true → k ≤ length row → (k < length row → own < get_or row k 0) → 1 ≤ k
      → leb (get_or row (k - 1) 0) own ≡ eqb k (first_above own row)
  before_decides rising within high some = go (leb (get_or row (k - 1) 0) own) refl
    where
      go : (b : Bool) → leb (get_or row (k - 1) 0) own ≡ b → leb (get_or row (k - 1) 0) own ≡ eqb k (first_above own row)
      go true e = e ∙ sym (is_first rising within high (λ h. leb-true (get_or row (k - 1) 0) own e))
      go false e = e ∙ sym (not_after some (leb-false (get_or row (k - 1) 0) own e))
