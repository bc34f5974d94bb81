-- The steps of fixing, for every N at once: a block is read, made anew and put back; where nothing is fixed, all stays.
-- Assumes nothing.
use mathlib.Core.Path.{◌≡◌, refl, sym, ap, ◌∙◌}
use mathlib.Core.List.{List}
use mathlib.Core.Bool.{Bool, true, false, cond}
use Prim.Native.Nat.{ℕ, ◌+◌, ◌-◌, ◌*◌}
use lib.Dec.{eqb}
use lib.IntN.{ℤ}
use lib.ListN.{length, get_or, take, drop}
use lib.Ieee.{Float, Format, nan}
use Rattle.blocks.specs.Block.{element}
use Rattle.blocks.specs.Lent.{block_at, put_at}
use Rattle.lent.specs.Steps.{Within}
use Rattle.matrix.proofs.FitLaws.{row_is}
use Rattle.fixing.specs.Fixing.{diagonal_value, fixed_diagonal, entry_value, fixed_entry, fix_diagonal_at, fix_entry_at, fix_entries, fix_row}
use Rattle.fixing.specs.Steps.{any_to}
use Rattle.fixing.proofs.FlagLaws.{none_at}
use Rattle.fixing.proofs.BlockLaws.{block_same, put_back}

-- either way the same
either : (b : Bool) (x : Float) → cond b x x ≡ x
either true x = refl
either false x = refl

module _ (f : Format) (n : ℕ) where
  -- where no value is fixed, an entry and a diagonal block stay
  pub entry_stays : (row column : ℕ → Bool) (e : ℕ) (values : List Float) → Within (n * n) e (length values) → any_to n row ≡ false → any_to n column ≡ false
      → values ≡ fix_entry_at f n row column e values
  unfolding fix_entry_at
  entry_stays row column e values fits none absent =
      let same : fixed_entry f n row column (block_at n values e) ≡ block_at n values e =
      block_same n (λ r c. entry_value f row column r c (element n (block_at n values e) r c)) (λ k. get_or values (n * n * e + k) nan)
      (λ r c a b. rw (none_at row n none r a, none_at column n absent c b)) in
      sym (ap (λ (b : List Float). put_at (n * n * e) b values) same ∙ put_back (n * n) (n * n * e) values fits)

  pub diagonal_stays : (valDia : Float) (fixed : ℕ → Bool) (i : ℕ) (diagonal : List Float) → Within (n * n) i (length diagonal) → any_to n fixed ≡ false
      → diagonal ≡ fix_diagonal_at f n valDia fixed i diagonal
  unfolding fix_diagonal_at
  diagonal_stays valDia fixed i diagonal fits none =
      let same : fixed_diagonal f n valDia fixed (block_at n diagonal i) ≡ block_at n diagonal i =
      block_same n (λ r c. diagonal_value f valDia fixed r c (element n (block_at n diagonal i) r c))
      (λ k. get_or diagonal (n * n * i + k) nan)
      (λ r c a b. rw (none_at fixed n none r a, none_at fixed n none c b) (either (eqb r c) (element n (block_at n diagonal i) r c))) in
      sym (ap (λ (b : List Float). put_at (n * n * i) b diagonal) same ∙ put_back (n * n) (n * n * i) diagonal fits)

  -- a block is read, made anew from the fixed values, and put back
  pub joined_entry : (row column : ℕ → Bool) (e : ℕ) (values a new z : List Float) → a ≡ block_at n values e → new ≡ fixed_entry f n row column a
      → z ≡ put_at (n * n * e) new values → z ≡ fix_entry_at f n row column e values
  unfolding fix_entry_at
  joined_entry row column e values a new z read made written =
      written ∙ ap (λ (b : List Float). put_at (n * n * e) b values) (made ∙ ap (fixed_entry f n row column) read)

  pub joined_diagonal : (valDia : Float) (fixed : ℕ → Bool) (i : ℕ) (diagonal a new z : List Float) → a ≡ block_at n diagonal i
      → new ≡ fixed_diagonal f n valDia fixed a → z ≡ put_at (n * n * i) new diagonal → z ≡ fix_diagonal_at f n valDia fixed i diagonal
  unfolding fix_diagonal_at
  joined_diagonal valDia fixed i diagonal a new z read made written =
      written ∙ ap (λ (b : List Float). put_at (n * n * i) b diagonal) (made ∙ ap (fixed_diagonal f n valDia fixed) read)

  -- a row, from the part of the columns that is handed on
  pub joined_row : (flags : List ℤ) (o cs : List ℕ) (i a b : ℕ) (values z : List Float) → a ≡ get_or o i 0 → b ≡ get_or o (i + 1) 0
      → z ≡ fix_entries f n flags i (take (b - a) (drop a cs)) a values → z ≡ fix_row f n flags o cs i values
  unfolding fix_row
  joined_row flags o cs i a b values z p q made = rw (row_is o cs i a b p q, p) at made
