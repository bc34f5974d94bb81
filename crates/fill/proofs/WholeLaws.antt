-- The whole call.
-- Assumes nothing.
use mathlib.Core.Path.{◌≡◌, sym, ap, ◌∙◌}
use mathlib.Core.List.{List, ◌++◌}
use mathlib.Core.Bool.{Bool, true, false}
use Prim.Native.Nat.{ℕ, zero, suc, ◌+◌, ◌-◌}
use native.Mathlib.Omega.{arith}
use lib.ListN.{length, drop, replicate, length-replicate}
use Rattle.walks.specs.Levels.{Pattern}
use Rattle.fill.specs.Fill.{fill_columns, start_of}
use Rattle.fill.specs.Steps.{over, Shaped, AllReady, Filled, Whole}

drop_zeros : (i m : ℕ) → ◌≡◌ {A = List ℕ} (drop i (replicate m 0)) (replicate (m - i) 0)
drop_zeros zero m = let e : m - 0 ≡ m = omega arith in rw e
drop_zeros (suc i) zero = let e : 0 - suc i ≡ 0 = omega arith in rw e
drop_zeros (suc i) (suc m) = let e : suc m - suc i ≡ m - i = omega arith in rw e (drop_zeros i m)

over_zeros : (l : List ℕ) (m : ℕ) → over l (replicate m 0) ≡ l ++ replicate (m - length l) 0
unfolding over
over_zeros l m = ap (λ (t : List ℕ). l ++ t) (drop_zeros (length l) m)

module _ (A : Pattern) (k n room : ℕ) (cs₀ ls₀ o cs ss ls row : List ℕ) (r : Bool) (F : Filled A k n cs₀ ls₀ r o cs ss ls row) (ec : cs₀ ≡ replicate room 0) where
  long : length cs₀ ≡ room
  long = ap length ec ∙ length-replicate room 0

  pub whole_done : r ≡ true → (ls' : List ℕ) → ls' ≡ replicate room 0 → Whole A k n room true o cs ss ls' row
  unfolding start_of
  whole_done t ls' el =
      let R = F.done t in
      record {
        answer = sym t ∙ F.answer ∙ rw long;
        offsets = R.offsets_are;
        columns = R.columns_are ∙ rw ec (over_zeros (fill_columns A k n n) room);
        splits = R.splits_are;
        levels = el;
        row_clear = R.clear;
      }

  pub whole_room : r ≡ false → (o' cs' ss' ls' row' : List ℕ) → o' ≡ replicate (n + 1) 0 → cs' ≡ replicate room 0 → ss' ≡ replicate n 0 → ls' ≡ replicate room 0 → row' ≡ replicate n 0
      → Whole A k n room false o' cs' ss' ls' row'
  whole_room t o' cs' ss' ls' row' eo e es el er = record {
    answer = sym t ∙ F.answer ∙ rw long;
    offsets = eo;
    columns = e;
    splits = es;
    levels = el;
    row_clear = er;
  }

-- cleared columns and row are as long as they were
pub shaped_clear : (n : ℕ) (ao ac o cs ss ls row cs' row' : List ℕ) → length row ≡ n → Shaped ao ac o cs ss ls row → cs' ≡ replicate (length cs) 0 → row' ≡ replicate (length row) 0
    → AllReady n ao ac o cs' ss ls row'
shaped_clear n ao ac o cs ss ls row cs' row' e S ec er =
    let lc : length cs' ≡ length cs = ap length ec ∙ length-replicate (length cs) 0 in
    let lr : length row' ≡ length row = ap length er ∙ length-replicate (length row) 0 in
    record {
      rows = lr ∙ e;
      shaped = record {
        rows = S.rows ∙ sym lr;
        valid = S.valid;
        few = omega (arith, lr, S.few);
        room = omega (arith, lc, S.room);
        offsets_long = omega (arith, lr, S.offsets_long);
        splits_long = omega (arith, lr, S.splits_long);
        levels_long = omega (arith, lc, S.levels_long);
      };
      clear = er ∙ rw e;
    }

pub zeros_as : {x : List ℕ} {m n : ℕ} → x ≡ replicate m 0 → m ≡ n → x ≡ replicate n 0
zeros_as e q = rw (← q) e
