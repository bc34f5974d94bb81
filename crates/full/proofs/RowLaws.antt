-- The rows of a full pattern: how long they are, and the loops that write them.
-- Assumes nothing.
use mathlib.Core.Path.{◌≡◌, refl, sym, ap, ◌∙◌}
use mathlib.Core.List.{List, ◌++◌, append_assoc}
use Prim.Native.Nat.{ℕ, zero, suc, ◌+◌, ◌-◌, ◌*◌, ◌≤◌, ◌<◌}
use native.Mathlib.Numerals.{add-one}
use native.Mathlib.Omega.{arith}
use lib.ListN.{length, set, take, drop, length-append, length-take, length-drop, length-set}
use lib.Seq.{set-set, take_at, drop_at, drop-drop, length-take-le}
use Rattle.base.specs.Each.{each, each_to}
use Rattle.base.proofs.Each.{each_none, each_more, each_all}
use Rattle.base.proofs.Sizes.{part_fits}
use Rattle.fill.specs.Fill.{joined, listed}
use Rattle.fill.specs.Steps.{over, put}
use Rattle.fill.proofs.Lists.{over_none}
use Rattle.fill.proofs.GoingLaws.{listed_same, each_listed}
use Rattle.fill.proofs.JoinedLaws.{part_put, put_over, joined_more, joined_length}
use Rattle.full.specs.Full.{others, full_columns, full_offsets, full_splits}
use Rattle.full.specs.Steps.{Roomy, Going, Rows}

length_listed : (f : ℕ → ℕ) (c d : ℕ) → length (listed f c d) ≡ d
unfolding listed
length_listed f c zero = refl
length_listed f c (suc d) = ap suc (length_listed f (suc c) d)

-- words that are their place above the first
pub counted : (first : ℕ) (s : List ℕ) → each (λ k _. first + k) s ≡ listed (λ c. c) first (length s)
counted first s =
    each_listed (λ k. first + k) s ∙ listed_same (λ k. first + k) (λ c. c) 0 first (length s) (λ k. let z : 0 + k ≡ k = omega arith in rw z)

length_others : (n i : ℕ) → i < n → length (others n i) ≡ n - 1
unfolding others
length_others n i h =
    omega (arith, length-append (listed (λ c. c) 0 i) (listed (λ c. c) (suc i) (n - suc i)), length_listed (λ c. c) 0 i, length_listed (λ c. c) (suc i) (n - suc i))

pub length_full : (n i : ℕ) → i ≤ n → length (full_columns n i) ≡ i * (n - 1)
unfolding full_columns
length_full n i h = joined_length (others n) (λ r. r * (n - 1)) n (omega arith) (λ r l. omega (arith, length_others n r l)) i h

-- one part behind another
put_put : (at p : ℕ) (l m s : List ℕ) → p ≡ at + length l → p ≤ length s → put p m (put at l s) ≡ put at (l ++ m) s
unfolding put over
put_put at p l m s e h =
    let t = take at s in
    let behind = drop (length l) (drop at s) in
    let q : t ++ (l ++ behind) ≡ (t ++ l) ++ behind = sym (append_assoc t l behind) in
    let x : length (t ++ l) ≡ p = length-append t l ∙ omega (arith, length-take-le at s (omega arith)) in
    let y : length (l ++ m) ≡ length l + length m = length-append l m in
    rw (q, take_at (t ++ l) behind p x, drop_at (t ++ l) behind p x, y, drop-drop (length m) (length l) (drop at s)) (simp append_assoc)

-- the two parts of row i, each lent and come back
module _ (n i at : ℕ) (cs : List ℕ) (h : i < n) (fits : at + (n - 1) ≤ length cs) where
  lower_long : length (take ((at + i) - at) (drop at cs)) ≡ i
  lower_long = simp (length-take, length-drop) (omega arith)

  upper_long : (u : List ℕ) → length u ≡ length cs → length (take ((at + (n - 1)) - (at + i)) (drop (at + i) u)) ≡ n - suc i
  upper_long u e = simp (length-take, length-drop) (omega arith)

  pub others_put : (t u v w : List ℕ) → length u ≡ length cs
      → t ≡ listed (λ c. c) 0 (length (take ((at + i) - at) (drop at cs))) → u ≡ take at cs ++ (t ++ drop ((at + i) - at) (drop at cs))
      → v ≡ listed (λ c. c) (i + 1) (length (take ((at + (n - 1)) - (at + i)) (drop (at + i) u)))
      → w ≡ take (at + i) u ++ (v ++ drop ((at + (n - 1)) - (at + i)) (drop (at + i) u)) → w ≡ put at (others n i) cs
  unfolding others
  others_put t u v w e et eu ev ew =
      let lower : t ≡ listed (λ c. c) 0 i = et ∙ rw lower_long in
      let upper : v ≡ listed (λ c. c) (suc i) (n - suc i) = ev ∙ rw (upper_long u e, add-one) in
      let lt : length t ≡ i = ap length lower ∙ length_listed (λ c. c) 0 i in
      let lv : length v ≡ n - suc i = ap length upper ∙ length_listed (λ c. c) (suc i) (n - suc i) in
      let first : u ≡ put at t cs = part_put at (at + i) t cs u (omega arith) eu in
      let second : w ≡ put (at + i) v u = part_put (at + i) (at + (n - 1)) v u w (omega arith) ew in
      let both : put (at + i) v u ≡ put at (t ++ v) cs = rw first (put_put at (at + i) t v cs (omega arith) (omega arith)) in
      second ∙ both ∙ rw (lower, upper)

-- the loop over the rows
module _ {n i at : ℕ} {o₀ cs₀ ss₀ o cs ss : List ℕ} (G : Going n i at o₀ cs₀ ss₀ o cs ss) (R : Roomy n (length o₀) (length cs₀) (length ss₀)) where
  pub going_fits : i < n → at + (n - 1) ≤ length cs₀
  going_fits h = omega (arith, G.at_is, part_fits (n - 1) i n (length cs₀) h (omega (arith, R.fits)))

  pub going_more : (o' cs' ss' : List ℕ) → i < n → ss' ≡ set ss i (at + i) → cs' ≡ put at (others n i) cs → o' ≡ set o (i + 1) (at + (n - 1))
      → Going n (i + 1) (at + (n - 1)) o₀ cs₀ ss₀ o' cs' ss'
  unfolding full_columns
  going_more o' cs' ss' h es ec eo =
      let m : ℕ = n - 1 in
      let e : n ≡ m + 1 = omega arith in
      let next : at + (n - 1) ≡ (i + 1) * (n - 1) = omega (arith, G.at_is) in
      let split : at + i ≡ i * n = rw e (omega (arith, G.at_is)) in
      let long : length (full_columns n i) ≡ at = length_full n i G.rows ∙ sym G.at_is in
      let row : put at (others n i) cs ≡ over (full_columns n i ++ others n i) cs₀ =
      rw G.columns_are (put_over at (full_columns n i) (others n i) cs₀ (sym long) (omega (arith, long, going_fits h))) in
      record {
        rows = omega arith;
        at_is = next;
        offsets_are = eo ∙ rw (next, G.offsets_are) (each_more (λ r _. r * (n - 1)) (i + 1) o₀ 0 (omega (arith, R.offsets_long)));
        columns_are = ec ∙ row ∙ rw (joined_more (others n) i);
        splits_are = es ∙ rw (split, G.splits_are) (each_more (λ r _. r * n) i ss₀ 0 (omega (arith, R.splits_long)));
      }

  pub going_end : n ≤ i → Rows n cs₀ o cs ss
  unfolding full_offsets full_splits
  going_end h =
      let e : i ≡ n = omega (arith, G.rows) in
      record {
        offsets_are = G.offsets_are ∙ each_all _ (i + 1) o₀ (omega (arith, R.offsets_long)) ∙ each_listed (λ r. r * (n - 1)) o₀ ∙ rw R.offsets_long;
        columns_are = rw e at G.columns_are;
        splits_are = G.splits_are ∙ each_all _ i ss₀ (omega (arith, R.splits_long)) ∙ each_listed (λ r. r * n) ss₀ ∙ rw R.splits_long;
      }

pub roomy_as : {n o p cs ss : ℕ} → p ≡ o → Roomy n o cs ss → Roomy n p cs ss
roomy_as e R = rw e R

pub going_start : (n : ℕ) (o o₀ cs ss : List ℕ) → length o ≡ n + 1 → o₀ ≡ set o 0 0 → Going n 0 0 o₀ cs ss o₀ cs ss
unfolding full_columns joined
going_start n o o₀ cs ss long e = record {
  rows = omega arith;
  at_is = omega arith;
  offsets_are = first;
  columns_are = over_none cs;
  splits_are = sym (each_none _ ss);
}
  where
    f : ℕ → ℕ → ℕ
    f r x = r * (n - 1)

    first : o₀ ≡ each_to f (0 + 1) o₀
    first =
        let h : 0 < length o₀ = omega (arith, ap length e, length-set o 0 0) in
        let z : 0 * (n - 1) ≡ 0 = omega arith in
        let y : set o₀ 0 0 ≡ o₀ = rw e (set-set o 0 0 0) in
        sym y ∙ rw (z, each_none f o₀) at (each_more f 0 o₀ 0 h)
