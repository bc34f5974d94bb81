-- The loops that copy a pattern and sort its rows.
-- Assumes nothing.
use mathlib.Core.Path.{◌≡◌, sym, ap, ◌∙◌}
use mathlib.Core.List.{List, [], ◌∷◌, ◌++◌, append-nil}
use Prim.Native.Nat.{ℕ, ◌+◌, ◌-◌, ◌≤◌, ◌<◌}
use native.Mathlib.Numerals.{add-one}
use native.Mathlib.Omega.{arith}
use lib.Dec.{ltb}
use lib.ListN.{length, get_or, set, take, drop, length-take, length-drop, drop_of_length-le}
use lib.Seq.{take-suc, take_all, drop_at, length-take-le}
use Rattle.base.specs.First.{first_in}
use Rattle.base.proofs.Each.{each_none, each_more, each_all}
use Rattle.patterns.specs.Pattern.{row_of}
use Rattle.rows.specs.Sort.{sort_of}
use Rattle.rows.proofs.SortMeaning.{sorted_same_length}
use Rattle.fill.specs.Fill.{joined}
use Rattle.fill.specs.Steps.{over, put}
use Rattle.fill.proofs.Lists.{over_none, over_more}
use Rattle.fill.proofs.GoingLaws.{each_listed}
use Rattle.fill.proofs.JoinedLaws.{part_put, put_over, joined_more, joined_length, joined_part}
use Rattle.ilu0.specs.Ilu0.{sorted_rows}
use Rattle.ilu0.specs.Steps.{InOrder, split_in, Going, RowsSorted}

-- one word more is copied
pub copy_more : (k : ℕ) (from to : List ℕ) → k < length from → length to ≡ length from → set (over (take k from) to) k (get_or from k 0) ≡ over (take (k + 1) from) to
copy_more k from to h e =
    let long : length (take k from) ≡ k = length-take-le k from (omega arith) in
    let more : set (over (take k from) to) (length (take k from)) (get_or from k 0) ≡ over (take k from ++ (get_or from k 0 ∷ [])) to = over_more (take k from) to (get_or from k 0) (omega arith) in
    rw (add-one, take-suc from k 0 h) (rw long at more)

-- and all are
pub copy_all : (k : ℕ) (from to : List ℕ) → length from ≤ k → length to ≡ length from → over (take k from) to ≡ from
unfolding over
copy_all k from to h e =
    let nothing : length to ≤ length from = omega arith in
    rw (take_all k from h, drop_of_length-le to nothing, append-nil)

module _ {starts : List ℕ} {n : ℕ} (cs : List ℕ) (I : InOrder starts (length cs) n) where
  -- row i is as long as its ends say
  row_long : (i : ℕ) → i < n → get_or starts i 0 + length (sort_of (row_of starts cs i)) ≡ get_or starts (i + 1) 0
  unfolding row_of
  row_long i h =
      let a = get_or starts i 0 in
      let b = get_or starts (i + 1) 0 in
      let l : length (take (b - a) (drop a cs)) ≡ b - a = simp (length-take, length-drop) (omega (arith, I.within i h)) in
      omega (arith, sorted_same_length (take (b - a) (drop a cs)), l, I.ordered i h)

  pub rows_long : (i : ℕ) → i ≤ n → length (sorted_rows starts cs i) ≡ get_or starts i 0
  unfolding sorted_rows
  rows_long i h = joined_length (λ r. sort_of (row_of starts cs r)) (λ r. get_or starts r 0) n I.first row_long i h

  -- a sorted row among them
  pub row_there : (p i : ℕ) (behind : List ℕ) → p < i → i ≤ n → take (get_or starts (p + 1) 0 - get_or starts p 0) (drop (get_or starts p 0) (sorted_rows starts cs i ++ behind)) ≡ sort_of (row_of starts cs p)
  unfolding sorted_rows
  row_there p i behind h m = joined_part (λ r. sort_of (row_of starts cs r)) (λ r. get_or starts r 0) n I.first row_long p i behind h m

  -- the rows before i fit
  rows_fit : (i : ℕ) → i < n → length (sorted_rows starts cs i) ≤ length cs
  rows_fit i h = omega (arith, rows_long i (omega arith), I.ordered i h, I.within i h)

  -- row i's own part, while the rows before it are sorted
  own_part : (i : ℕ) → i < n → take (get_or starts (i + 1) 0 - get_or starts i 0) (drop (get_or starts i 0) (over (sorted_rows starts cs i) cs)) ≡ row_of starts cs i
  unfolding over row_of
  own_part i h =
      let a = get_or starts i 0 in
      let F = sorted_rows starts cs i in
      let e : length F ≡ a = rows_long i (omega arith) in
      rw (drop_at F (drop (length F) cs) a e, e)

  -- it is lent, and comes back sorted
  row_sorted : (i a b : ℕ) (s t u : List ℕ) → i < n → a ≡ get_or starts i 0 → b ≡ get_or starts (i + 1) 0 → s ≡ over (sorted_rows starts cs i) cs
      → t ≡ sort_of (take (b - a) (drop a s)) → u ≡ take a s ++ (t ++ drop (b - a) (drop a s)) → u ≡ over (sorted_rows starts cs (i + 1)) cs
  unfolding sorted_rows
  row_sorted i a b s t u h ea eb es et eu =
      let F = sorted_rows starts cs i in
      let T = sort_of (row_of starts cs i) in
      let part : take (b - a) (drop a s) ≡ row_of starts cs i = rw (ea, eb, es) (own_part i h) in
      let same : t ≡ T = et ∙ rw part in
      let long : length t ≡ b - a = omega (arith, ap length same, row_long i h, ea, eb) in
      let at : a ≡ length F = ea ∙ sym (rows_long i (omega arith)) in
      let behind : put a T (over F cs) ≡ over (F ++ T) cs = put_over a F T cs at (rows_fit i h) in
      let there : put a t s ≡ over (F ++ T) cs = rw (same, es) behind in
      part_put a b t s u long eu ∙ there ∙ rw (joined_more (λ r. sort_of (row_of starts cs r)) i)

  -- its split is looked up there
  split_found : (i a b lower : ℕ) (u : List ℕ) → i < n → a ≡ get_or starts i 0 → b ≡ get_or starts (i + 1) 0 → u ≡ over (sorted_rows starts cs (i + 1)) cs
      → lower ≡ first_in (λ c. ltb i c) (take (b - a) (drop a u)) → a + lower ≡ split_in starts cs i
  unfolding over split_in
  split_found i a b lower u h ea eb eu el =
      let there : take (b - a) (drop a u) ≡ sort_of (row_of starts cs i) = rw (ea, eb, eu) (row_there i (i + 1) _ (omega arith) (omega arith)) in
      rw (el, there, ea)

-- the loop over the rows
pub going_start : (starts cs ss : List ℕ) → Going starts 0 cs ss cs ss
unfolding sorted_rows joined
going_start starts cs ss = record { rows = omega arith; columns_are = over_none cs; splits_are = sym (each_none _ ss) }

module _ {starts : List ℕ} {i : ℕ} {cs₀ ss₀ cs ss : List ℕ} (G : Going starts i cs₀ ss₀ cs ss) (I : InOrder starts (length cs₀) (length ss₀)) where
  pub going_more : (a b lower : ℕ) (t u ss' : List ℕ) → i < length ss₀ → a ≡ get_or starts i 0 → b ≡ get_or starts (i + 1) 0
      → t ≡ sort_of (take (b - a) (drop a cs)) → u ≡ take a cs ++ (t ++ drop (b - a) (drop a cs))
      → lower ≡ first_in (λ c. ltb i c) (take (b - a) (drop a u)) → ss' ≡ set ss i (a + lower) → Going starts (i + 1) cs₀ ss₀ u ss'
  going_more a b lower t u ss' h ea eb et eu el es =
      let sorted = row_sorted cs₀ I i a b cs t u h ea eb G.columns_are et eu in
      let split = split_found cs₀ I i a b lower u h ea eb sorted el in
      record {
        rows = omega arith;
        columns_are = sorted;
        splits_are = es ∙ rw (split, G.splits_are) (each_more (λ r _. split_in starts cs₀ r) i ss₀ 0 h);
      }

  pub going_end : length ss₀ ≤ i → RowsSorted starts cs₀ (length ss₀) cs ss
  going_end h =
      let e : i ≡ length ss₀ = omega (arith, G.rows) in
      record { columns_are = rw e at G.columns_are; splits_are = G.splits_are ∙ each_all _ i ss₀ h ∙ each_listed (split_in starts cs₀) ss₀ }
