-- The loop of the plain method: what each turn finds, and what it leaves.
-- Assumes nothing.
use mathlib.Core.Path.{◌≡◌, refl, sym, ap, ◌∙◌}
use mathlib.Core.List.{List, [], ◌∷◌}
use mathlib.Core.Bool.{true, false}
use Prim.Native.Nat.{ℕ, ◌+◌, ◌≤◌, ◌<◌}
use native.Mathlib.Omega.{arith}
use lib.ListN.{length, set, length-set, length-append}
use lib.Ieee.{Float, binary64, mul, div, lt}
use Rattle.vectors.specs.Vectors.{scale_add}
use Rattle.root.specs.Sqrt.{sqrt}
use Rattle.solvers.specs.Method.{Matrix, State, state_of, moved, ratio, run}
use Rattle.solvers.specs.Solvers.{is_settled, turned, plain}
use Rattle.advancing.specs.Steps.{Ready, Advanced, Leaves}
use Rattle.advancing.proofs.StepLaws.{ready_same}
use Rattle.advancing.proofs.OverLaws.{over_none}
use Rattle.advancing.proofs.RunLaws.{Going, going_start, going_on, going_stops, going_end, going_written}

-- all fits, the slices are as long as they came, and the steps that are left lead where all of them lead
pub record Turning (n : ℕ) (a : Matrix) (tolerance inverse : Float) (limit : ℕ) (z : State) (words r x q p h : List Float) (rho : Float) (k : ℕ) : Type 0 where
  pub ready : Ready n a (length r) (length x) (length q) (length p)
  pub len_r : length r ≡ length z.r
  pub len_x : length x ≡ length z.x
  pub len_q : length q ≡ length z.q
  pub len_p : length p ≡ length z.p
  pub len_h : length h ≡ length words
  pub below : k ≤ limit
  pub room : limit ≤ length words
  pub going : Going (plain binary64 n a tolerance inverse) limit z [] words (state_of r x q p rho) h k

module _ {n : ℕ} {a : Matrix} {tolerance inverse : Float} {limit : ℕ} where
  pub turning_start : {r x q p h : List Float} {rho : Float} → Ready n a (length r) (length x) (length q) (length p) → limit ≤ length h
      → Turning n a tolerance inverse limit (state_of r x q p rho) h r x q p h rho 0
  turning_start {h = h} ready room =
      record {
        ready = ready;
        len_r = refl;
        len_x = refl;
        len_q = refl;
        len_p = refl;
        len_h = refl;
        below = omega arith;
        room = room;
        going = going_start (omega arith) (sym (over_none h));
      }

  module _ {z : State} {words r x q p h : List Float} {rho : Float} {k : ℕ} (g : Turning n a tolerance inverse limit z words r x q p h rho k) where
    -- the loop ends by its count
    pub turning_end : limit ≤ k → Leaves (run (plain binary64 n a tolerance inverse) limit z) words r x q p h k
    turning_end b =
        rw (going_end g.going b) (record {
          of_r = refl;
          of_x = refl;
          of_q = refl;
          of_p = refl;
          of_history = g.going.written;
          of_count = sym g.going.count;
        })

    module _ (b : k < limit) (r' x' q' : List Float) (square number : Float) (step : Advanced binary64 n a (moved binary64 n a (state_of r x q p rho)) r' x' q' square)
        (root : number ≡ sqrt binary64 (mul binary64 square inverse)) where
      abbrev t : State
      t = moved binary64 n a (state_of r x q p rho)

      is_ratio : number ≡ ratio binary64 n a inverse t
      unfolding ratio
      is_ratio = rw step.of_square at root

      -- where its number is written
      place : length {A = Float} [] + k ≡ k
      place = omega arith

      tested : is_settled binary64 n a tolerance inverse t ≡ lt number tolerance
      unfolding is_settled
      tested = ap (λ (v : Float). lt v tolerance) (sym is_ratio)

      -- its ratio is below the tolerance
      pub turning_stops : lt number tolerance ≡ true → Leaves (run (plain binary64 n a tolerance inverse) limit z) words r' x' q' p (set h k number) (k + 1)
      unfolding moved
      turning_stops stop =
          rw (going_stops g.going b t number refl is_ratio (tested ∙ stop)) (record {
            of_r = step.of_r;
            of_x = step.of_x;
            of_q = step.of_q;
            of_p = refl;
            of_history = rw place at (going_written g.going b t number refl is_ratio);
            of_count = ap (λ (j : ℕ). j + 1) (sym g.going.count) ∙ sym (length-append g.going.done (number ∷ []));
          })

      next : (p' : List Float) → p' ≡ scale_add binary64 (div binary64 square rho) r' p → state_of r' x' q' p' square ≡ turned binary64 n a t
      unfolding turned moved
      next p' renewed = rw (renewed, step.of_r, step.of_x, step.of_q, step.of_square)

      -- it is not, and the next direction follows
      pub turning_on : (p' : List Float) → lt number tolerance ≡ false → p' ≡ scale_add binary64 (div binary64 square rho) r' p
          → length r' ≡ length r → length x' ≡ length x → length q' ≡ length q → length p' ≡ length p
          → Turning n a tolerance inverse limit z words r' x' q' p' (set h k number) square (k + 1)
      turning_on p' stop renewed lr lx lq lp =
          record {
            ready = ready_same (length r') (length x') (length q') (length p') g.ready lr lx lq lp;
            len_r = lr ∙ g.len_r;
            len_x = lx ∙ g.len_x;
            len_q = lq ∙ g.len_q;
            len_p = lp ∙ g.len_p;
            len_h = length-set h k number ∙ g.len_h;
            below = omega arith;
            room = g.room;
            going = going_on g.going b t number refl is_ratio (state_of r' x' q' p' square) (set h k number) (tested ∙ stop) (next p' renewed) (rw place);
          }
