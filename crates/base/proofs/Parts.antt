-- A part of a list that was replaced is the new one, and what stands before it and after it is as it was.
-- Assumes nothing.
use mathlib.Core.Path.{◌≡◌, refl, sym, ap, ◌∙◌}
use mathlib.Core.List.{List, [], ◌∷◌, ◌++◌, append_assoc}
use Prim.Native.Nat.{ℕ, ◌+◌, ◌-◌, ◌≤◌, ◌<◌}
use native.Mathlib.Omega.{arith}
use lib.ListN.{length, get_or, take, drop, length-take, length-drop, length-append, get_or-append}
use lib.Seq.{paste, length-paste, drop-paste, take_at, drop_at, take_all, drop-drop, length-take-le, get_or-take, get_or-drop, ext_get_or}

module _ {A : Type 0} (d : List A) (at : ℕ) (s : List A) (n : ℕ) (long : length s ≡ n) (fits : at + n ≤ length d) where
  -- the block itself
  pub part_same : take n (drop at (paste d at s n)) ≡ s
  part_same =
      let a : length (take at d) ≡ at = length-take-le at d (omega arith) in
      let b : length (take n s) ≡ n = length-take-le n s (omega arith) in
      rw (append_assoc (take at d) (take n s) (drop (at + n) d), drop_at (take at d) (take n s ++ drop (at + n) d) at a, take_at (take n s) (drop (at + n) d) n b)
      (take_all n s (omega arith))

  -- what stands after it
  pub part_after : (j m : ℕ) → at + n ≤ j → take m (drop j (paste d at s n)) ≡ take m (drop j d)
  part_after j m h =
      let e : j ≡ (at + n) + (j - (at + n)) = omega arith in
      ap (take m) (ap (λ (k : ℕ). drop k (paste d at s n)) e ∙ sym (drop-drop (j - (at + n)) (at + n) (paste d at s n))
      ∙ ap (drop (j - (at + n))) (drop-paste d at s n (omega arith) (omega arith)) ∙ drop-drop (j - (at + n)) (at + n) d ∙ ap (λ (k : ℕ). drop k d) (sym e))

  before : (i : ℕ) (z : A) → i < at → get_or (paste d at s n) i z ≡ get_or d i z
  before i z h =
      let a : length (take at d) ≡ at = length-take-le at d (omega arith) in
      get_or-append (take at d ++ take n s) (drop (at + n) d) z i (omega (arith, length-append (take at d) (take n s)))
      ∙ get_or-append (take at d) (take n s) z i (omega arith) ∙ get_or-take at d i z h

  -- what stands before it
  pub part_before : (z : A) (j m : ℕ) → j + m ≤ at → take m (drop j (paste d at s n)) ≡ take m (drop j d)
  part_before z j m h =
      let l : length (paste d at s n) ≡ length d = length-paste d at s n fits (omega arith) in
      ext_get_or z _ _ (simp (length-take, length-drop, l))
      (λ i k. let i< : i < m = omega (arith, length-take m (drop j (paste d at s n))) in
      rw (get_or-take m (drop j (paste d at s n)) i z i<, get_or-take m (drop j d) i z i<, get_or-drop j (paste d at s n) i z, get_or-drop j d i z) (before (j + i) z (omega arith)))
