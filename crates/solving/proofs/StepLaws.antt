-- The solve in its steps, for every N at once, and each step from the part of the columns that is handed on.
-- Assumes nothing.
use mathlib.Core.Path.{◌≡◌, refl, sym, ap, ◌∙◌}
use mathlib.Core.List.{List}
use Prim.Native.Nat.{ℕ, zero, suc, ◌+◌, ◌-◌, ◌*◌, ◌≤◌, ◌<◌}
use native.Mathlib.Omega.{arith}
use lib.ListN.{length, get_or, take, drop, length-take, length-drop}
use lib.Seq.{get_or-take, get_or-drop, take_all}
use lib.Ieee.{Float, Format, nan, sub, mul}
use Rattle.base.specs.Iterate.{steps, iterate}
use Rattle.base.proofs.Iterate.{iterate_none, iterate_more, iterate_join, iterate_keeps}
use Rattle.blocks.specs.Block.{element, sum_to, applied, subtracted}
use Rattle.blocks.specs.Lent.{block_at, vector_at, put_at}
use Rattle.blocks.proofs.ListedLaws.{length_listed}
use Rattle.blocks.proofs.LentLaws.{put_same}
use Rattle.factors.specs.Factor.{FactorPattern, FactorValues}
use Rattle.factors.specs.Solve.{less_entry, less_entries, forward_row, backward_row}
use Rattle.solving.specs.Steps.{less_product, less_at, less_part, forward_part, backward_part}
use Rattle.solving.specs.Fits.{Known}

-- a block and a row are read and multiplied, and the product is taken away
pub joined_product : (f : Format) (n : ℕ) (values : List Float) (e : ℕ) (x : List Float) (j : ℕ) (t a v p r : List Float)
    → a ≡ block_at n values e → v ≡ vector_at n x j → p ≡ applied f n a v → r ≡ subtracted f n t p → r ≡ less_product f n values e x j t
unfolding less_product
joined_product f n values e x j t a v p r block row product less =
    less ∙ ap (subtracted f n t) (product ∙ ap (λ (b : List Float). applied f n b v) block ∙ ap (applied f n (block_at n values e)) row)

-- a row is read, its part is taken away, the pivot's block is read and multiplied, and the row is put back
pub joined_forward : (f : Format) (n : ℕ) (part : List ℕ) (first : ℕ) (diagonal values : List Float) (i : ℕ) (x t u b v z : List Float)
    → t ≡ vector_at n x i → u ≡ less_part f n part first values x t → b ≡ block_at n diagonal i → v ≡ applied f n b u → z ≡ put_at (n * i) v x
    → z ≡ forward_part f n part first diagonal values i x
unfolding forward_part
joined_forward f n part first diagonal values i x t u b v z read less block product written =
    written
    ∙ ap (λ (w : List Float). put_at (n * i) w x)
    (product ∙ ap (λ (c : List Float). applied f n c u) block ∙ ap (applied f n (block_at n diagonal i)) (less ∙ ap (less_part f n part first values x) read))

-- the same without the pivot
pub joined_backward : (f : Format) (n : ℕ) (part : List ℕ) (first : ℕ) (values : List Float) (i : ℕ) (x t u z : List Float)
    → t ≡ vector_at n x i → u ≡ less_part f n part first values x t → z ≡ put_at (n * i) u x → z ≡ backward_part f n part first values i x
unfolding backward_part
joined_backward f n part first values i x t u z read less written =
    written ∙ ap (λ (w : List Float). put_at (n * i) w x) (less ∙ ap (less_part f n part first values x) read)

-- steps from 0 on that are the steps of another from a on
shifted : {S : Type 0} (g f : ℕ → S → S) (a m : ℕ) (s : S) → ((k : ℕ) (t : S) → k < m → g k t ≡ f (a + k) t) → steps g 0 m s ≡ steps f a m s
unfolding steps
shifted g f a zero s same = refl
shifted g f a (suc m) s same =
    let here : 0 + m ≡ m = omega arith in
    rw here (ap (g m) (shifted g f a m s (λ k t h. same k t (omega arith))) ∙ same m (steps f a m s) (omega arith))

-- the first step before the others
front : {S : Type 0} (f : ℕ → S → S) (m : ℕ) (s : S) → 1 ≤ m → iterate f 1 m (f 0 s) ≡ iterate f 0 m s
front f m s some =
    ap (iterate f 1 m) (sym (iterate_more f 0 0 s (omega arith) ∙ ap (f 0) (iterate_none f 0 0 s (omega arith)))) ∙ iterate_join f 0 1 m s (omega arith) some

-- what is handed on where the first entry is left out
pub rest_is : (part : List ℕ) → take (length part - 1) (drop 1 part) ≡ drop 1 part
rest_is part = take_all (length part - 1) (drop 1 part) (simp length-drop (omega arith))

-- a part is its last entry after the others, and its first entry before the others
module _ (f : Format) (n : ℕ) (part : List ℕ) (first : ℕ) (values x r : List Float) where
  pub none_is : length part ≡ 0 → less_part f n part first values x r ≡ r
  unfolding less_part
  none_is none = iterate_none (less_at f n part first values x) 0 (length part) r (omega arith)

  pub lower_is : (last : ℕ) → last + 1 ≡ length part
      → less_product f n values (first + last) x (get_or part last 0) (less_part f n (take last part) first values x r) ≡ less_part f n part first values x r
  unfolding less_part less_at iterate
  lower_is last whole =
      let g : ℕ → List Float → List Float = less_at f n part first values x in
      let long : length (take last part) ≡ last = simp length-take (omega arith) in
      let same : steps (less_at f n (take last part) first values x) 0 last r ≡ steps g 0 last r =
      shifted (less_at f n (take last part) first values x) g 0 last r
      (λ k t h. let e : 0 + k ≡ k = omega arith in rw (e, get_or-take last part k 0 h)) in
      let cut : last - 0 ≡ last = omega arith in
      rw (long, cut) (ap (g last) same ∙ rw (← whole) (sym (rw cut at (iterate_more g 0 last r (omega arith)))))

  pub upper_is : 1 ≤ length part
      → less_part f n (drop 1 part) (first + 1) values x (less_product f n values first x (get_or part 0 0) r) ≡ less_part f n part first values x r
  unfolding less_part less_at iterate
  upper_is some =
      let g : ℕ → List Float → List Float = less_at f n part first values x in
      let u : List Float = less_product f n values first x (get_or part 0 0) r in
      let long : length (drop 1 part) - 0 ≡ length part - 1 = simp length-drop (omega arith) in
      let whole : first + 0 ≡ first = omega arith in
      let start : u ≡ g 0 r = rw whole in
      let same : steps (less_at f n (drop 1 part) (first + 1) values x) 0 (length part - 1) u ≡ steps g 1 (length part - 1) u =
      shifted (less_at f n (drop 1 part) (first + 1) values x) g 1 (length part - 1) u
      (λ k t h. let e : first + 1 + k ≡ first + (1 + k) = omega arith in rw (e, get_or-drop 1 part k 0)) in
      rw long (same ∙ ap (λ (v : List Float). steps g 1 (length part - 1) v) start ∙ front g (length part) r some)

-- the row at hand is the one that an entry leads to
pub at_hand : (n j at : ℕ) (known x : List Float) → j ≡ at → n * j + n ≤ length x → Known n at known x → known ≡ vector_at n x j
at_hand n j at known x same inside is = rw same (is (rw same at inside))

-- rows have n values
pub long_applied : (f : Format) (n : ℕ) (a v r : List Float) → r ≡ applied f n a v → length r ≡ n
long_applied f n a v r is = rw is (length_listed n (λ k. sum_to f n (λ q. mul f (element n a k q) (get_or v q nan))))

pub long_less : (f : Format) (n : ℕ) (part : List ℕ) (first : ℕ) (values x : List Float) (i : ℕ) (t r : List Float)
    → t ≡ vector_at n x i → r ≡ less_part f n part first values x t → length r ≡ n
unfolding less_part less_at less_product
long_less f n part first values x i t r read is =
    rw is
    (iterate_keeps (less_at f n part first values x) (λ k (u : List Float). length u ≡ n) 0 t (length part) (omega arith)
    (rw read (length_listed n (λ k. get_or x (n * i + k) nan)))
    (λ k u low high so. length_listed n (λ q. sub f (get_or u q nan) (get_or (applied f n (block_at n values (first + k)) (vector_at n x (get_or part k 0))) q nan))))

-- a row that was put is the row that is there
pub written : (n i : ℕ) (v x z : List Float) → length v ≡ n → n * i + n ≤ length x → z ≡ put_at (n * i) v x → v ≡ vector_at n z i
written n i v x z long fits put =
    let same = put_same (n * i) v x (omega arith) in
    sym (rw put (rw long at same))

-- the part that is handed on has the entries from place a to below b
pub part_is : (f : Format) (n : ℕ) (cs : List ℕ) (values x : List Float) (a b : ℕ) (r : List Float) → a ≤ b → b ≤ length cs
    → less_part f n (take (b - a) (drop a cs)) a values x r ≡ less_entries f n cs values x a b r
unfolding less_part less_at less_product less_entries less_entry iterate
part_is f n cs values x a b r up within =
    let part : List ℕ = take (b - a) (drop a cs) in
    let long : length part ≡ b - a = simp (length-take, length-drop) (omega arith) in
    let whole : b - a - 0 ≡ b - a = omega arith in
    rw (long, whole) (shifted (less_at f n part a values x) (less_entry f n cs values x) a (b - a) r
    (λ k t h. rw (get_or-take (b - a) (drop a cs) k 0 h, get_or-drop a cs k 0)))

-- row i forward and backward
module _ (f : Format) (n : ℕ) (t : FactorPattern) (s : FactorValues) (i : ℕ) (x : List Float) (a b : ℕ) (up : a ≤ b) (within : b ≤ length t.columns) where
  pub forward_is : a ≡ get_or t.offsets i 0 → b ≡ get_or t.splits i 0
      → forward_part f n (take (b - a) (drop a t.columns)) a s.diagonal s.values i x ≡ forward_row f n t s i x
  unfolding forward_part forward_row
  forward_is p q =
      ap (λ (u : List Float). put_at (n * i) (applied f n (block_at n s.diagonal i) u) x) (part_is f n t.columns s.values x a b (vector_at n x i) up within)
      ∙ rw (p, q)

  pub backward_is : a ≡ get_or t.splits i 0 → b ≡ get_or t.offsets (i + 1) 0
      → backward_part f n (take (b - a) (drop a t.columns)) a s.values i x ≡ backward_row f n t s i x
  unfolding backward_part backward_row
  backward_is p q =
      ap (λ (u : List Float). put_at (n * i) u x) (part_is f n t.columns s.values x a b (vector_at n x i) up within) ∙ rw (p, q)

-- rows falling from m: one more, where `left` rows were left
pub falling_more : {S : Type 0} (g : ℕ → S → S) (m left : ℕ) (s : S) → 1 ≤ left → left ≤ m
    → iterate (λ k. g (m - 1 - k)) 0 (m - (left - 1)) s ≡ g (left - 1) (iterate (λ k. g (m - 1 - k)) 0 (m - left) s)
falling_more g m left s some within =
    let longer : m - (left - 1) ≡ (m - left) + 1 = omega arith in
    let row : m - 1 - (m - left) ≡ left - 1 = omega arith in
    rw longer (iterate_more (λ k. g (m - 1 - k)) 0 (m - left) s (omega arith) ∙ ap (λ (i : ℕ). g i (iterate (λ k. g (m - 1 - k)) 0 (m - left) s)) row)
