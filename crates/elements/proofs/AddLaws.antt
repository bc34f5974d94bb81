-- The additions of an assembly, for every N at once: one block, one pair, and that only the entries of pairs matter.
-- Assumes nothing.
use mathlib.Core.Path.{◌≡◌, refl, ap, ◌∙◌}
use mathlib.Core.List.{List}
use mathlib.Core.Bool.{Bool, true, false, cond}
use Prim.Native.Nat.{ℕ, zero, suc, ◌+◌, ◌-◌, ◌*◌, ◌<◌}
use native.Mathlib.Omega.{arith}
use lib.ListN.{length, get_or}
use lib.Ieee.{Float, Format}
use Rattle.base.specs.Iterate.{steps, iterate}
use Rattle.blocks.specs.Block.{added}
use Rattle.blocks.specs.Lent.{block_at, put_at}
use Rattle.elements.specs.declared.unchecked.Rule.{Rule}
use Rattle.elements.specs.Pairs.{to_diagonal}
use Rattle.elements.specs.Assembly.{Lists, add_block, add_pair, add_row, add_all}

-- the two blocks are read, added and put back
pub joined : (f : Format) (n : ℕ) (element : List Float) (k e : ℕ) (target x y p z : List Float)
    → x ≡ block_at n target e → y ≡ block_at n element k → p ≡ added f (n * n) x y → z ≡ put_at (n * n * e) p target → z ≡ add_block f n element k e target
unfolding add_block
joined f n element k e target x y p z ex ey ep ez =
    ez ∙ ap (λ (l : List Float). put_at (n * n * e) l target) (ep ∙ ap (λ (l : List Float). added f (n * n) l y) ex ∙ ap (added f (n * n) (block_at n target e)) ey)

-- two lists by each
lists_same : {d d' v v' : List Float} → d ≡ d' → v ≡ v' → ◌≡◌ {A = Lists} (d, v) (d', v')
lists_same p q = cc

-- where the block of a pair goes
module _ (f : Format) (n : ℕ) (rule : Rule) (rows cols : List ℕ) (element : List Float) (entry : ℕ → ℕ → ℕ) (a b : ℕ) (d v z : List Float) where
  pub pair_diagonal : to_diagonal rule rows cols a b ≡ true → z ≡ add_block f n element (length rows * a + b) (get_or rows a 0) d
      → ◌≡◌ {A = Lists} (z, v) (add_pair f n rule rows cols element entry a b (d, v))
  unfolding add_pair
  pair_diagonal there is = rw there (lists_same is refl)

  pub pair_entry : to_diagonal rule rows cols a b ≡ false → z ≡ add_block f n element (length rows * a + b) (entry a b) v
      → ◌≡◌ {A = Lists} (d, z) (add_pair f n rule rows cols element entry a b (d, v))
  unfolding add_pair
  pair_entry apart is = rw apart (lists_same refl is)

-- steps that agree below the end lead to the same
steps_same : {S : Type 0} (g h : ℕ → S → S) (n : ℕ) (s : S) → ((i : ℕ) (t : S) → i < n → g i t ≡ h i t) → steps g 0 n s ≡ steps h 0 n s
unfolding steps
steps_same g h zero s same = refl
steps_same g h (suc n) s same =
    same (0 + n) (steps g 0 n s) (omega arith) ∙ ap (h (0 + n)) (steps_same g h n s (λ i t l. same i t (omega arith)))

iterate_same : {S : Type 0} (g h : ℕ → S → S) (n : ℕ) (s : S) → ((i : ℕ) (t : S) → i < n → g i t ≡ h i t) → iterate g 0 n s ≡ iterate h 0 n s
unfolding iterate
iterate_same g h n s same = steps_same g h (n - 0) s (λ i t l. same i t (omega arith))

-- the entry of a pair matters only if the pair goes there
module _ (f : Format) (n : ℕ) (rule : Rule) (rows cols : List ℕ) (element : List Float) (e e' : ℕ → ℕ → ℕ) where
  same_pair : (a b : ℕ) (s : Lists) → (to_diagonal rule rows cols a b ≡ false → e a b ≡ e' a b) → add_pair f n rule rows cols element e a b s ≡ add_pair f n rule rows cols element e' a b s
  unfolding add_pair
  same_pair a b s same = go (to_diagonal rule rows cols a b) refl
    where
      go : (t : Bool) → to_diagonal rule rows cols a b ≡ t → ◌≡◌ {A = Lists}
          (cond t (add_block f n element (length rows * a + b) (get_or rows a 0) s.0, s.1) (s.0, add_block f n element (length rows * a + b) (e a b) s.1))
          (cond t (add_block f n element (length rows * a + b) (get_or rows a 0) s.0, s.1) (s.0, add_block f n element (length rows * a + b) (e' a b) s.1))
      go true there = refl
      go false apart = rw (same apart)

  pub same_entries : ((a b : ℕ) → a < length rows → b < length cols → to_diagonal rule rows cols a b ≡ false → e a b ≡ e' a b)
      → (s : Lists) → add_all f n rule rows cols element e s ≡ add_all f n rule rows cols element e' s
  unfolding add_all add_row
  same_entries same s =
      iterate_same (add_row f n rule rows cols element e) (add_row f n rule rows cols element e') (length rows) s
      (λ a t ha. iterate_same (add_pair f n rule rows cols element e a) (add_pair f n rule rows cols element e' a) (length cols) t
      (λ b u hb. same_pair a b u (same a b ha hb)))
