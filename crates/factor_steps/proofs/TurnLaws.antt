-- The loop of the preconditioned method: what each turn finds, and what it leaves.
-- Assumes nothing.
use mathlib.Core.Path.{◌≡◌, refl, sym, ap, ◌∙◌}
use mathlib.Core.List.{List, [], ◌∷◌, ◌++◌, append-nil}
use mathlib.Core.Bool.{true, false}
use Prim.Native.Nat.{ℕ, ◌+◌, ◌*◌, ◌≤◌, ◌<◌}
use native.Mathlib.Omega.{arith}
use lib.ListN.{length, set, length-set, length-append}
use lib.Ieee.{Float, binary64, mul, div, lt}
use Rattle.patterns.specs.Pattern.{rows_of}
use Rattle.vectors.specs.Vectors.{copied, scale_add, dot_to}
use Rattle.factors.specs.Solve.{solve}
use Rattle.root.specs.Sqrt.{sqrt}
use Rattle.solvers.specs.Method as method
use Rattle.solvers.specs.Method.{Matrix, State, state_of, dot_all, moved, squared, ratio, Run, run}
use Rattle.solvers.specs.Solvers.{Factor, is_settled, preconditioned, redirected, by_factor, with_norms}
use Rattle.solvers.specs.Promise.{over}
use Rattle.advancing.specs.Steps.{Ready, Advanced, Leaves}
use Rattle.advancing.proofs.StepLaws.{ready_same}
use Rattle.advancing.proofs.OverLaws.{set_over, first_over, over_first}
use Rattle.advancing.proofs.RunLaws.{Going, going_start, going_on, going_stops, going_end, going_written}
use Rattle.factor_steps.specs.Steps.{Beside, Preconditions}

-- P r from what its parts leave
pub preconditions : (n : ℕ) (g : Factor) (r q w z : List Float) (rho : Float) → w ≡ copied r q → z ≡ solve binary64 n g.pattern g.values w
    → rho ≡ dot_to binary64 n r z (rows_of g.pattern.offsets) → Preconditions binary64 n g r q z rho
unfolding preconditioned
preconditions n g r q w z rho copy_is solve-is dot-is = record { of_z = solve-is ∙ ap (solve binary64 n g.pattern g.values) copy_is; of_rho = dot-is }

-- all fits, the slices are as long as they came, and the steps that are left lead where all of them lead
pub record Turning (n : ℕ) (a : Matrix) (g : Factor) (norm tolerance inverse : Float) (limit : ℕ) (z : State) (words r x q p h : List Float) (rho : Float) (k : ℕ) : Type 0 where
  pub ready : Ready n a (length r) (length x) (length q) (length p)
  pub beside : Beside n a g
  pub of_q : length q ≡ n * rows_of g.pattern.offsets
  pub of_r : length r ≡ n * rows_of g.pattern.offsets
  pub len_r : length r ≡ length z.r
  pub len_x : length x ≡ length z.x
  pub len_q : length q ≡ length z.q
  pub len_p : length p ≡ length z.p
  pub len_h : length h ≡ length words
  pub below : k ≤ limit
  pub room : limit + 2 ≤ length words
  pub few : limit ≤ 4096
  pub going : Going (by_factor binary64 n a g tolerance inverse) limit z (norm ∷ []) words (state_of r x q p rho) h k

-- the factor's rows are the matrix's
pub of_rows : {n length : ℕ} {a : Matrix} {g : Factor} → Beside n a g → length ≡ n * rows_of a.offsets → length ≡ n * rows_of g.pattern.offsets
of_rows {n} beside is = is ∙ ap (λ (rows : ℕ). n * rows) (sym beside.same)

module _ {n : ℕ} {a : Matrix} {g : Factor} {norm tolerance inverse : Float} {limit : ℕ} where
  pub turning_start : {r x q p : List Float} {rho : Float} (words : List Float) → Ready n a (length r) (length x) (length q) (length p) → Beside n a g → limit + 2 ≤ length words → limit ≤ 4096
      → Turning n a g norm tolerance inverse limit (state_of r x q p rho) (set words 0 norm) r x q p (set words 0 norm) rho 0
  turning_start words ready beside room few =
      record {
        ready = ready;
        beside = beside;
        of_q = of_rows beside ready.of_q;
        of_r = of_rows beside ready.of_r;
        len_r = refl;
        len_x = refl;
        len_q = refl;
        len_p = refl;
        len_h = refl;
        below = omega arith;
        room = omega (arith, length-set words 0 norm);
        few = few;
        going = going_start (omega (arith, length-set words 0 norm)) (first_over words norm (omega arith));
      }

  module _ {z : State} {words r x q p h : List Float} {rho : Float} {k : ℕ} (t : Turning n a g norm tolerance inverse limit z words r x q p h rho k) where
    -- the loop ends by its count, and the last norm is written once more
    module _ (b : limit ≤ k) (square last : Float) (square-is : square ≡ dot_to binary64 n r r (rows_of a.offsets)) (root : last ≡ sqrt binary64 square) where
      again : last ≡ method.norm binary64 n a (state_of r x q p rho)
      unfolding method.norm squared dot_all
      again = root ∙ ap (sqrt binary64) square-is

      all_made : length t.going.done ≡ limit
      all_made = omega (arith, t.going.count, t.below)

      written : set h (limit + 1) last ≡ over (norm ∷ (t.going.done ++ (last ∷ []))) words
      written =
          let place : length (norm ∷ t.going.done) ≡ limit + 1 = omega (arith, all_made) in
          rw (t.going.written, ← place) (set_over (norm ∷ t.going.done) words last (omega (arith, all_made, t.room)))

      pub turning_end : Leaves (with_norms binary64 n a norm (run (by_factor binary64 n a g tolerance inverse) limit z)) words r x q p (set h (limit + 1) last) (limit + 2)
      turning_end =
          rw (going_end t.going b, ← again) (record {
            of_r = refl;
            of_x = refl;
            of_q = refl;
            of_p = refl;
            of_history = written;
            of_count = omega (arith, length-append t.going.done (last ∷ []), all_made);
          })

    module _ (b : k < limit) (r' x' q' : List Float) (square number share : Float)
        (step : Advanced binary64 n a (moved binary64 n a (state_of r x q p rho)) r' x' q' square) (root : number ≡ sqrt binary64 square)
        (root-of-share : share ≡ sqrt binary64 (mul binary64 square inverse)) where
      abbrev made : State
      made = moved binary64 n a (state_of r x q p rho)

      is_norm : number ≡ method.norm binary64 n a made
      unfolding method.norm
      is_norm = root ∙ ap (sqrt binary64) step.of_square

      -- where its norm is written
      place : length (norm ∷ []) + k ≡ k + 1
      place = omega arith

      tested : is_settled binary64 n a tolerance inverse made ≡ lt share tolerance
      unfolding is_settled ratio
      tested = ap (λ (v : Float). lt v tolerance) (sym (rw step.of_square at root-of-share))

      -- its ratio is below the tolerance
      pub turning_stops : lt share tolerance ≡ true
          → Leaves (with_norms binary64 n a norm (run (by_factor binary64 n a g tolerance inverse) limit z)) words r' x' q' p (set h (k + 1) number) (k + 1 + 1)
      unfolding moved
      turning_stops stop =
          rw (going_stops t.going b made number refl is_norm (tested ∙ stop), append-nil (t.going.done ++ (number ∷ []))) (record {
            of_r = step.of_r;
            of_x = step.of_x;
            of_q = step.of_q;
            of_p = refl;
            of_history = rw place at (going_written t.going b made number refl is_norm);
            of_count = omega (arith, length-append t.going.done (number ∷ []), t.going.count);
          })

      -- it is not, and the next direction follows
      module _ (w p' : List Float) (rho' : Float) (prepared : Preconditions binary64 n g r' q' w rho') (turned : p' ≡ scale_add binary64 (div binary64 rho' rho) w p) where
        next : state_of r' x' w p' rho' ≡ redirected binary64 n a g made
        unfolding redirected moved dot_all
        next = rw (turned, prepared.of_rho, t.beside.same, prepared.of_z, step.of_r, step.of_x, step.of_q)

        pub turning_on : lt share tolerance ≡ false → length r' ≡ length r → length x' ≡ length x → length w ≡ length q → length p' ≡ length p
            → Turning n a g norm tolerance inverse limit z words r' x' w p' (set h (k + 1) number) rho' (k + 1)
        turning_on stop lr lx lq lp =
            record {
              ready = ready_same (length r') (length x') (length w) (length p') t.ready lr lx lq lp;
              beside = t.beside;
              of_q = lq ∙ t.of_q;
              of_r = lr ∙ t.of_r;
              len_r = lr ∙ t.len_r;
              len_x = lx ∙ t.len_x;
              len_q = lq ∙ t.len_q;
              len_p = lp ∙ t.len_p;
              len_h = length-set h (k + 1) number ∙ t.len_h;
              below = omega arith;
              room = t.room;
              few = t.few;
              going = going_on t.going b made number refl is_norm (state_of r' x' w p' rho') (set h (k + 1) number) (tested ∙ stop) next (rw place);
            }

-- the first norm was written before the loop
pub from_first : (n : ℕ) (a : Matrix) (norm : Float) (t : Run) (words r x q p h : List Float) (count : ℕ) → Leaves (with_norms binary64 n a norm t) (set words 0 norm) r x q p h count
    → Leaves (with_norms binary64 n a norm t) words r x q p h count
from_first n a norm t words r x q p h count left =
    record {
      of_r = left.of_r;
      of_x = left.of_x;
      of_q = left.of_q;
      of_p = left.of_p;
      of_history = left.of_history ∙ over_first norm _ words norm;
      of_count = left.of_count;
    }
