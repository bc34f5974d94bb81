-- The laws of `firstIn`, for a loop that looks for the first element. Its invariant is `firstIn p l ≡ i + first_in p (drop i l)`.
-- Assumes nothing.
use mathlib.Core.Path.{◌≡◌, refl, sym, ap, ◌∙◌}
use mathlib.Core.List.{List, [], ◌∷◌}
use mathlib.Core.Bool.{Bool, true, false}
use Prim.Native.Nat.{ℕ, zero, suc, ◌+◌, ◌≤◌, ◌<◌}
use native.Mathlib.Numerals.{add-one}
use native.Mathlib.Omega.{arith}
use lib.ListN.{length, get_or, drop, drop_of_length-le}
use lib.Seq.{drop-cons}
use Rattle.base.specs.First.{first_in}

module _ {A : Type 0} (p : A → Bool) (l : List A) where
  pub first_start : first_in p l ≡ 0 + first_in p (drop 0 l)
  first_start = omega arith

  -- element i is not the one
  pub first_skip : (i : ℕ) (d : A) → i < length l → p (get_or l i d) ≡ false → first_in p l ≡ i + first_in p (drop i l) → first_in p l ≡ (i + 1) + first_in p (drop (i + 1) l)
  unfolding first_in
  first_skip i d h e inv =
      let q : first_in p (drop i l) ≡ suc (first_in p (drop (i + 1) l)) = rw (drop-cons l i d h, e, add-one) in
      omega arith

  -- element i is the one
  pub first_hit : (i : ℕ) (d : A) → i < length l → p (get_or l i d) ≡ true → first_in p l ≡ i + first_in p (drop i l) → first_in p l ≡ i
  unfolding first_in
  first_hit i d h e inv =
      let q : first_in p (drop i l) ≡ 0 = rw (drop-cons l i d h, e) in
      omega arith

  -- there is none
  pub first_end_lem : (i : ℕ) → length l ≤ i → i ≤ length l → first_in p l ≡ i + first_in p (drop i l) → first_in p l ≡ length l
  unfolding first_in
  first_end_lem i h k inv =
      let q : first_in p (drop i l) ≡ 0 = rw (drop_of_length-le l h) in
      omega arith
