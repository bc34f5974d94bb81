-- The levels of a row up to a pivot.
-- Assumes nothing.
use mathlib.Core.Path.{◌≡◌, refl}
use mathlib.Core.Logic.{◌≢◌}
use mathlib.Core.Bool.{cond}
use mathlib.Core.Option.{none, some}
use Prim.Native.Nat.{ℕ, zero, suc, ◌+◌, ◌≤◌, ◌<◌, min}
use native.Mathlib.Numerals.{add-one}
use native.Mathlib.Omega.{arith}
use borrow.Author.Tests.{eq-eqb, ne_eqb}
use Rattle.walks.specs.Levels.{Pattern, lesser, through, level_below, level_of}
use Rattle.walks.proofs.LevelLaws.{level_step}
use Rattle.fill.specs.Steps.{level_in, level_up_to, least}

module _ (A : Pattern) (k : ℕ) where
  pub upto_done : (p i j : ℕ) → min i j ≤ p → level_up_to A k p i j ≡ level_of A k i j
  unfolding level_up_to level_of
  upto_done p i j h = let e : min p (min i j) ≡ min i j = omega arith in rw e

  pub upto_own : (p i : ℕ) → level_up_to A k p i i ≡ none
  unfolding level_up_to
  upto_own p i = rw (eq-eqb i i refl)

  pub upto_low : (p i j : ℕ) → p < i → j ≤ p → level_up_to A k (p + 1) i j ≡ level_up_to A k p i j
  unfolding level_up_to
  upto_low p i j hi hj = let e : min (p + 1) (min i j) ≡ min p (min i j) = omega arith in rw e

  pub upto_high : (p i j : ℕ) → p < i → p < j → i ≢ j → level_up_to A k (p + 1) i j ≡ lesser (level_up_to A k p i j) (through k (level_of A k i p) (level_of A k p j))
  unfolding level_up_to
  upto_high p i j hi hj ne =
      let e : min (p + 1) (min i j) ≡ suc p = omega arith in
      let e' : min p (min i j) ≡ p = omega arith in
      rw (ne_eqb i j ne, e, e') (level_step A k i j p hi hj)

  pub upto_start : (i j : ℕ) → i ≢ j → level_up_to A k 0 i j ≡ cond (A i j) (some 0) none
  unfolding level_up_to level_below
  upto_start i j ne = let e : min 0 (min i j) ≡ 0 = omega arith in rw (ne_eqb i j ne, e)

-- a word whose level is below b is at most b
pub word_below : (w b : ℕ) → ((l : ℕ) → level_in w ≡ some l → l < b) → w ≤ b
word_below zero b h = omega arith
word_below (suc l) b h = h l refl

-- the words of the lesser
pub least_level : (w b : ℕ) → level_in (least w (b + 1)) ≡ lesser (level_in w) (some b)
least_level zero b = rw add-one
least_level (suc l) b = let e : min (suc l) (b + 1) ≡ suc (min l b) = omega arith in rw e

pub least_left : (v w r : ℕ) → v ≢ 0 → v < w → r ≡ v → r ≡ least v w
least_left zero w r h l e = absurd (h refl)
least_left (suc v) w r h l e = omega arith

pub least_right : (v w r : ℕ) → v ≢ 0 → w ≤ v → r ≡ w → r ≡ least v w
least_right zero w r h l e = absurd (h refl)
least_right (suc v) w r h l e = omega arith
