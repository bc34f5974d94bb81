-- Rows one after the other: where each stands. The columns of the fill are such rows, and so are its levels.
-- Assumes nothing.
use mathlib.Core.Path.{◌≡◌, refl, sym, ap, ◌∙◌}
use mathlib.Core.Logic.{◌⊎◌, inl, inr}
use mathlib.Core.List.{List, [], ◌++◌, append_assoc, append-nil}
use Prim.Native.Nat.{ℕ, zero, suc, ◌+◌, ◌-◌, ◌≤◌, ◌<◌}
use native.Mathlib.Nat.{not-suc-le-zero}
use native.Mathlib.Numerals.{add-one}
use native.Mathlib.Omega.{arith}
use lib.ListN.{length, take, drop, replicate, length-append, length-drop, drop_of_length-le}
use lib.Seq.{take-append_seam, take_at, drop_at, take_all}
use Rattle.base.proofs.Each.{cons_same}
use Rattle.walks.specs.Levels.{Pattern, level_of}
use Rattle.walks.proofs.Highest.{le_or_lt}
use Rattle.fill.specs.Fill.{columns_from, levels_from, joined, fill_columns, fill_levels, listed}
use Rattle.fill.specs.Steps.{over, put}
use Rattle.fill.proofs.Lists.{over_add}

-- a part that was lent and comes back as long as it was
pub part_put : (a b : ℕ) (l s u : List ℕ) → length l ≡ b - a → u ≡ take a s ++ (l ++ drop (b - a) (drop a s)) → u ≡ put a l s
unfolding put over
part_put a b l s u e q = rw (← e) at q

-- written behind what stands there
pub put_over : (at : ℕ) (l m s : List ℕ) → at ≡ length l → length l ≤ length s → put at m (over l s) ≡ over (l ++ m) s
unfolding put
put_over at l m s e h = rw e (over_add l m s h)

-- only the rows before i count
pub joined_same : (f g : ℕ → List ℕ) (i : ℕ) → ((p : ℕ) → p < i → f p ≡ g p) → joined f i ≡ joined g i
unfolding joined
joined_same f g zero same = refl
joined_same f g (suc i) same = rw (joined_same f g i (λ p h. same p (omega arith)), same i (omega arith))

module _ (row : ℕ → List ℕ) where
  pub joined_more : (i : ℕ) → joined row (i + 1) ≡ joined row i ++ row i
  unfolding joined
  joined_more i = rw add-one

  pub joined_longer : (i : ℕ) → length (joined row (i + 1)) ≡ length (joined row i) + length (row i)
  joined_longer i = ap length (joined_more i) ∙ length-append (joined row i) (row i)

  -- row p stands behind the rows before it
  pub joined_behind : (p i : ℕ) → p < i → (rest : List ℕ) × (joined row i ≡ joined row p ++ (row p ++ rest))
  unfolding joined
  joined_behind p zero h = absurd (not-suc-le-zero h)
  joined_behind p (suc i) h = go (le_or_lt i p) (λ q. joined_behind p i q)
    where
      go : (i ≤ p) ⊎ (p < i) → (p < i → (rest : List ℕ) × (joined row i ≡ joined row p ++ (row p ++ rest)))
          → (rest : List ℕ) × (joined row i ++ row i ≡ joined row p ++ (row p ++ rest))
      go (inl q) r = let e : p ≡ i = omega arith in ([], rw (e, append-nil))
      go (inr q) r = ((r q).0 ++ row i, rw (r q).1 (simp append_assoc))

  -- rows that fill the places from each start to the next
  module _ (start : ℕ → ℕ) (n : ℕ) (first : start 0 ≡ 0) (next : (i : ℕ) → i < n → start i + length (row i) ≡ start (i + 1)) where
    pub joined_length : (i : ℕ) → i ≤ n → length (joined row i) ≡ start i
    unfolding joined
    joined_length zero h = sym first
    joined_length (suc i) h =
        let e : start (i + 1) ≡ start (suc i) = rw add-one in
        omega (arith, length-append (joined row i) (row i), joined_length i (omega arith), next i (omega arith), e)

    -- stand there
    pub joined_part : (p i : ℕ) (behind : List ℕ) → p < i → i ≤ n → take (start (p + 1) - start p) (drop (start p) (joined row i ++ behind)) ≡ row p
    joined_part p i behind h m =
        let b = joined_behind p i h in
        let q : joined row i ++ behind ≡ joined row p ++ (row p ++ (b.0 ++ behind)) = rw b.1 (simp append_assoc) in
        let e : length (row p) ≡ start (p + 1) - start p = omega (arith, next p (omega arith)) in
        rw (q, drop_at (joined row p) (row p ++ (b.0 ++ behind)) (start p) (joined_length p (omega arith)), take_at (row p) (b.0 ++ behind) (start (p + 1) - start p) e)

-- zeros behind what is written
pub over_cleared : (all : ℕ) (l s t u : List ℕ) → all ≡ length l → length l ≤ length s → t ≡ replicate (length (take (length (over l s) - all) (drop all (over l s)))) 0
    → u ≡ take all (over l s) ++ (t ++ drop (length (over l s) - all) (drop all (over l s))) → u ≡ l ++ replicate (length s - length l) 0
unfolding over
over_cleared all l s t u e h z q =
    let behind = drop (length l) s in
    let long : length (l ++ behind) ≡ length s = length-append l behind ∙ omega (arith, length-drop (length l) s) in
    let d : drop all (l ++ behind) ≡ behind = drop_at l behind all (sym e) in
    let k : take all (l ++ behind) ≡ l = rw e (take-append_seam l behind) in
    let short : length behind ≤ length s - all = omega (arith, length-drop (length l) s) in
    let x : length behind ≡ length s - length l = omega (arith, length-drop (length l) s) in
    q ∙ rw (z, long, d, k, drop_of_length-le behind short, append-nil, take_all (length s - all) behind short, x)

-- a list of numbers is fixed by those that it takes
pub listed_within : (f g : ℕ → ℕ) (c d : ℕ) → ((i : ℕ) → c ≤ i → i < c + d → f i ≡ g i) → listed f c d ≡ listed g c d
unfolding listed
listed_within f g c zero h = refl
listed_within f g c (suc d) h = cons_same (h c (omega arith) (omega arith)) (listed_within f g (suc c) d (λ i a b. h i (omega arith) (omega arith)))

module _ (A : Pattern) (k n : ℕ) where
  abbrev pub fill_row : ℕ → List ℕ
  fill_row i = columns_from (level_of A k i) 0 n

  pub fill_joined : (i : ℕ) → fill_columns A k n i ≡ joined fill_row i
  unfolding fill_columns joined
  fill_joined zero = refl
  fill_joined (suc i) = rw (fill_joined i)

  pub levels_joined : (i : ℕ) → fill_levels A k n i ≡ joined (λ p. levels_from (level_of A k p) 0 n) i
  unfolding fill_levels joined
  levels_joined zero = refl
  levels_joined (suc i) = rw (levels_joined i)
