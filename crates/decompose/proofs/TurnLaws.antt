-- A turn of `decompose`, from the steps that its calls are: a row stops, or it is finished and the rows after it are left; and what no row is left to do.
-- Assumes nothing.
use mathlib.Core.Path.{◌≡◌, refl, sym, ap, ◌∙◌}
use mathlib.Core.List.{List, [], ◌∷◌}
use mathlib.Core.Bool.{Bool, true, false, cond}
use Prim.Native.Nat.{ℕ, suc, ◌+◌, ◌-◌, ◌*◌, ◌≤◌, ◌<◌}
use native.Mathlib.Numerals.{add-one}
use native.Mathlib.Omega.{arith}
use lib.ListN.{length}
use lib.Ieee.{Float, Format}
use borrow.Author.Tests.{lt-ltb, le-ltb}
use Rattle.std.specs.Prelude.{Result, Err}
use Rattle.answers.specs.Numbers.{Answer, number_of, values_of}
use Rattle.answers.specs.Checks.{first_of, ◌when◌}
use Rattle.blocks.specs.declared.NoInverse.{NoInverse}
use Rattle.blocks.specs.Inverse.{inverse, singular, refusal_of, Inverted}
use Rattle.blocks.specs.Lent.{block_at, put_at}
use Rattle.lent.specs.Steps.{Within, inverse_or, inverse_at, Inverting}
use Rattle.fixing.proofs.BlockLaws.{put_back}
use Rattle.factors.specs.Factor.{FactorPattern, FactorValues, Decomposed, reduce_row, invert_pivot, finish_row, decompose_from}
use Rattle.factors.proofs.Stopped.{from_on, from_stop}
use Rattle.reducing.specs.Lent.{factor_of}
use Rattle.decompose.specs.Steps.{multiply_row, stopped_at}

-- what an inverse answers says whether the pivot is singular
pub refused : (b : Bool) (number : ℕ) → number ≡ first_of ((9 when b) ∷ []) → (number ≡ 0 → ⊥) → b ≡ true
refused true number is other = refl
refused false number is other = absurd (other is)

pub accepted : (b : Bool) (number : ℕ) → number ≡ first_of ((9 when b) ∷ []) → number ≡ 0 → b ≡ false
accepted true number is done = absurd (omega (arith, is, done))
accepted false number is done = refl

-- a pivot without an inverse is refused with 9, and stays: with it put back nothing has changed
pub pivot_kept : {B : Type 0} (f : Format) (n : ℕ) (list : B → List Float) (diagonal : List Float) (i : ℕ) (pivot : List Float) (result : Result B (NoInverse B)) (why : NoInverse B)
    (answer : Answer) → Within (n * n) i (length diagonal) → pivot ≡ block_at n diagonal i → Inverted f n list pivot result → result ≡ Err why
    → answer ≡ Err (refusal_of why) → (Inverting f n (block_at n diagonal i) answer) × (diagonal ≡ inverse_at f n diagonal i i diagonal)
unfolding inverse_at inverse_or
pivot_kept f n list diagonal i pivot result why answer room read given none is =
    let here : Inverted f n list (block_at n diagonal i) (Err why) = rw (read, none) at given in
    let stop : singular f n (block_at n diagonal i) ≡ true = refused _ _ here.number (λ z. omega (arith, z)) in
    let back : put_at (n * n * i) (cond (singular f n (block_at n diagonal i)) (block_at n diagonal i) (inverse f n (block_at n diagonal i))) diagonal ≡ diagonal =
    rw stop (put_back (n * n) (n * n * i) diagonal room) in
    (record { number = ap number_of is ∙ here.number; row = ap values_of is ∙ here.row }, sym back)

module _ (f : Format) (n : ℕ) (t : FactorPattern) (rows i : ℕ) (h : i < rows) (s : FactorValues) (diagonal values : List Float)
    (reduced : factor_of diagonal values ≡ reduce_row f n t i s) (pivot : List Float) (inverted : pivot ≡ inverse_at f n diagonal i i diagonal) where
  left : rows - i ≡ suc (rows - (i + 1))
  left = omega arith

  -- the row's pivot is singular, and stays
  pub turn_stops : singular f n (block_at n diagonal i) ≡ true → Within (n * n) i (length diagonal)
      → ◌≡◌ {A = Decomposed} (record { left = factor_of pivot values; stopped = stopped_at rows i }) (decompose_from f n t i (rows - i) s)
  unfolding stopped_at inverse_at inverse_or
  turn_stops stop room =
      let same : pivot ≡ diagonal = inverted ∙ rw stop (put_back (n * n) (n * n * i) diagonal room) in
      let found : singular f n (block_at n (reduce_row f n t i s).diagonal i) ≡ true = rw (← reduced) stop in
      rw (left, from_stop f n t i (rows - (i + 1)) s found, same, reduced, lt-ltb i rows h)

  -- it is inverted, and the row's upper entries are multiplied by it
  pub turn_goes : singular f n (block_at n diagonal i) ≡ false → (after : FactorValues) → after ≡ multiply_row f n t i (factor_of pivot values)
      → decompose_from f n t i (rows - i) s ≡ decompose_from f n t (i + 1) (rows - (i + 1)) after
  unfolding multiply_row finish_row inverse_at inverse_or invert_pivot
  turn_goes go after is =
      let new : pivot ≡ put_at (n * n * i) (inverse f n (block_at n diagonal i)) diagonal = inverted ∙ rw go in
      let whole : after ≡ finish_row f n t i (factor_of diagonal values) = rw new at is in
      let found : singular f n (block_at n (reduce_row f n t i s).diagonal i) ≡ false = rw (← reduced) go in
      rw (left, from_on f n t i (rows - (i + 1)) s found, ← reduced, ← whole, add-one i)

pub turn_ends : (f : Format) (n : ℕ) (t : FactorPattern) (rows i : ℕ) (s : FactorValues) → rows ≤ i
    → ◌≡◌ {A = Decomposed} (record { left = s; stopped = stopped_at rows rows }) (decompose_from f n t i (rows - i) s)
unfolding decompose_from stopped_at
turn_ends f n t rows i s h =
    let e : rows - i ≡ 0 = omega arith in
    rw (e, le-ltb rows rows (omega arith))
