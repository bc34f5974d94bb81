-- The steps of a row, seven at once: what a search for one that does not rise has found.
-- Assumes nothing.
use mathlib.Core.Path.{◌≡◌, refl, ◌∙◌}
use mathlib.Core.List.{List}
use mathlib.Core.Bool.{Bool, true, false, ◌&&◌}
use Prim.Native.Nat.{ℕ, ◌+◌, ◌-◌, ◌≤◌}
use native.Mathlib.Numerals.{add-one}
use native.Mathlib.Omega.{arith}
use lib.ListN.{length, get_or}
use lib.Dec.{ltb}
use Rattle.base.specs.All.{all_to}
use Rattle.base.proofs.All.{both, false_right}
use Rattle.patterns.specs.Pattern.{rises}
use Rattle.patterns.specs.Steps.{rises_to, seven_rise}
use Rattle.patterns.proofs.TestLaws.{assoc, all_less}

-- one test more, after some that are known
module _ (p : ℕ → Bool) (known : Bool) where
  more : (j m : ℕ) (b test : Bool) → all_to p j ≡ (known && b) → j + 1 ≡ m → p j ≡ test → all_to p m ≡ (known && (b && test))
  unfolding all_to
  more j m b test so next is = rw (← next, add-one, so, is) (assoc known b test)

  first : (j m : ℕ) (test : Bool) → all_to p j ≡ known → j + 1 ≡ m → p j ≡ test → all_to p m ≡ (known && test)
  unfolding all_to
  first j m test so next is = rw (← next, add-one, so, is)

module _ (row : List ℕ) (k : ℕ) where
  abbrev rise_at : ℕ → Bool
  rise_at j = ltb (get_or row j 0) (get_or row (j + 1) 0)

  rise_is : (j m : ℕ) → j + 1 ≡ m → rise_at j ≡ ltb (get_or row j 0) (get_or row m 0)
  rise_is j m next = rw next

  pub seven_rise_lem : rises_to row (k + 7) ≡ (rises_to row k && seven_rise row k)
  unfolding seven_rise
  seven_rise_lem =
      let a : Bool = rises_to row k in
      let e2 : (k + 1) + 1 ≡ k + 2 = omega arith in
      let e3 : (k + 2) + 1 ≡ k + 3 = omega arith in
      let e4 : (k + 3) + 1 ≡ k + 4 = omega arith in
      let e5 : (k + 4) + 1 ≡ k + 5 = omega arith in
      let e6 : (k + 5) + 1 ≡ k + 6 = omega arith in
      let e7 : (k + 6) + 1 ≡ k + 7 = omega arith in
      more rise_at a (k + 6) (k + 7) _ _
      (more rise_at a (k + 5) (k + 6) _ _
      (more rise_at a (k + 4) (k + 5) _ _
      (more rise_at a (k + 3) (k + 4) _ _
      (more rise_at a (k + 2) (k + 3) _ _
      (more rise_at a (k + 1) (k + 2) _ _
      (first rise_at a k (k + 1) _ refl refl refl) e2 (rise_is (k + 1) (k + 2) e2))
      e3 (rise_is (k + 2) (k + 3) e3))
      e4 (rise_is (k + 3) (k + 4) e4))
      e5 (rise_is (k + 4) (k + 5) e5))
      e6 (rise_is (k + 5) (k + 6) e6))
      e7 (rise_is (k + 6) (k + 7) e7)

  -- seven more that rise, and seven of which one does not
  pub rises_on : rises_to row k ≡ true → seven_rise row k ≡ true → rises_to row (k + 7) ≡ true
  rises_on so on = seven_rise_lem ∙ both so on

  pub falls_on : k + 8 ≤ length row → seven_rise row k ≡ false → rises row ≡ false
  unfolding rises
  falls_on inside stop = all_less rise_at (k + 7) (length row - 1) (omega arith) (seven_rise_lem ∙ false_right (rises_to row k) stop)
