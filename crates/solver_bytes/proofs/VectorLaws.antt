-- The vectors of a solver by the lengths of their bytes: the rooms hold those that no check refuses. And no refusal has the number 0.
-- Assumes nothing.
use mathlib.Core.Path.{◌≡◌, refl, ap}
use mathlib.Core.Bool.{Bool, true, false, not, ◌||◌}
use Prim.Native.Nat.{ℕ, ◌*◌, ◌/◌, ◌≤◌}
use native.Mathlib.Omega.{arith}
use lib.Dec.{ltb, eqb}
use borrow.Author.Tests.{eqb-true, not-false, ltb-false}
use Rattle.std.specs.Prelude.{Ok, Err}
use Rattle.answers.specs.Numbers.{Answer}
use Rattle.base.proofs.All.{or_left, or_right}
use Rattle.answers.specs.declared.Refusal.{Refusal}
use Rattle.answers.specs.Numbers.{refusal_number}
use Rattle.answers.specs.Limits.{outside_of, wrong_length, iterations_out_of_range}
use Rattle.answers.proofs.SameAnswer.{same_number}
use Rattle.solvers.specs.Checks.{wrong_vectors}
use Rattle.pattern_bytes.specs.Checks.{broken}
use Rattle.pattern_bytes.proofs.RoomLaws.{whole_values}
use Rattle.solver_bytes.specs.Checks.{broken_vectors}
use Rattle.solver_bytes.specs.Rooms.{HeldVectors}

pub held_vectors : (dim rows numbers r x q p history : ℕ) → outside_of 1 3 dim ≡ false → broken_vectors r x q p history ≡ false
    → wrong_vectors rows dim (r / 8) (x / 8) (q / 8) (p / 8) ≡ false → ((words : ℕ) → words ≡ dim * rows → words ≤ 12288) → numbers ≤ 4098
    → ltb (history / 8) numbers ≡ false → HeldVectors dim numbers r x q p history
held_vectors dim rows numbers r x q p history inside unbroken right fewer few long =
    let b1 = or_right (broken 8 r) (broken 8 x || (broken 8 q || (broken 8 p || broken 8 history))) unbroken in
    let b2 = or_right (broken 8 x) (broken 8 q || (broken 8 p || broken 8 history)) b1 in
    let b3 = or_right (broken 8 q) (broken 8 p || broken 8 history) b2 in
    let w1 = or_right (wrong_length rows dim (r / 8)) (wrong_length rows dim (x / 8) || (wrong_length rows dim (q / 8) || wrong_length rows dim (p / 8))) right in
    let w2 = or_right (wrong_length rows dim (x / 8)) (wrong_length rows dim (q / 8) || wrong_length rows dim (p / 8)) w1 in
    let few_in : (words : ℕ) → wrong_length rows dim words ≡ false → words ≤ 12288 = λ words w. fewer words (eqb-true words (dim * rows) (not-false (eqb words (dim * rows)) w)) in
    record {
      range = inside;
      of_r = record {
        whole = whole_values r (or_left (broken 8 r) (broken 8 x || (broken 8 q || (broken 8 p || broken 8 history))) unbroken);
        few = few_in (r / 8) (or_left (wrong_length rows dim (r / 8)) (wrong_length rows dim (x / 8) || (wrong_length rows dim (q / 8) || wrong_length rows dim (p / 8))) right);
      };
      of_x = record {
        whole = whole_values x (or_left (broken 8 x) (broken 8 q || (broken 8 p || broken 8 history)) b1);
        few = few_in (x / 8) (or_left (wrong_length rows dim (x / 8)) (wrong_length rows dim (q / 8) || wrong_length rows dim (p / 8)) w1);
      };
      of_q = record {
        whole = whole_values q (or_left (broken 8 q) (broken 8 p || broken 8 history) b2);
        few = few_in (q / 8) (or_left (wrong_length rows dim (q / 8)) (wrong_length rows dim (p / 8)) w2);
      };
      of_p = record {
        whole = whole_values p (or_left (broken 8 p) (broken 8 history) b3);
        few = few_in (p / 8) (or_right (wrong_length rows dim (q / 8)) (wrong_length rows dim (p / 8)) w2);
      };
      few = few;
      enough = omega (arith, whole_values history (or_right (broken 8 p) (broken 8 history) b3), ltb-false (history / 8) numbers long);
    }

-- the limit
pub limit_most : (limit : ℕ) → iterations_out_of_range limit ≡ false → limit ≤ 4096
limit_most limit inside = ltb-false 4096 limit (or_right (ltb limit 0) (ltb 4096 limit) inside)
