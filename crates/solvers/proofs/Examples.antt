-- Document 01's cases 10 and 11, computed from the definitions: N = 1, A = 2 with its own factor, tolerance 0.5. The plain solver's beside them.
-- Whatever the solution, Pr, Ap and p hold before. Assumes nothing.
use mathlib.Core.Path.{◌≡◌, refl}
use mathlib.Core.List.{List, [], ◌∷◌}
use mathlib.Core.Bool.{true, false}
use Prim.Native.Nat.{ℕ}
use lib.IntN.{pos, negsuc}
use lib.ListN.{length, get_or}
use lib.Ieee.{Float, inf, fin, binary64, add, sub, mul, div, neg, lt, of_bits, of_int, odd, round, units, span, climb, size, sum}
use Rattle.base.specs.Iterate.{steps, iterate}
use Rattle.base.specs.Each.{each}
use Rattle.blocks.specs.Lent.{put_at}
use Rattle.blocks.proofs.Examples.{plus}
use Rattle.patterns.specs.Pattern.{row_of}
use Rattle.vectors.specs.Vectors.{zero_at, zeroed, copy_at, copied, add_scaled_at, add_scaled, scale_add_at, scale_add, scale_at, scaled_by, dot_to}
use Rattle.matrix.specs.Product.{add_product, add_entry, add_entries, add_row, add_row_at, mult_row, mult_vec}
use Rattle.factors.specs.Solve.{less_entry, less_entries, forward_row, backward_row, solve}
use Rattle.root.specs.Sqrt.{whole_root, nearest_root, sqrt}
use Rattle.solvers.specs.Method.{Matrix, matrix_of, state_of, Run, dot_all, product_of, moved, squared, norm, ratio, run}
use Rattle.solvers.specs.Verdict.{preconditioned_verdict, plain_verdict, last_of}
use Rattle.solvers.specs.declared.Verdict.TheVariants.{Empty, Settled, Unsettled}
use Rattle.solvers.specs.Solvers.{epsilon, Factor, is_settled, turned, conjugate_gradient, preconditioned, redirected, preconditioned_gradient}

abbrev two : Matrix
two = matrix_of (0 ∷ 0 ∷ []) [] [] (plus 2 ∷ [])

abbrev half : Float
half = fin false 1 (negsuc 0)

abbrev factor : Factor
factor = record { pattern = record { offsets = 0 ∷ 0 ∷ []; columns = []; splits = 0 ∷ [] }; values = record { diagonal = half ∷ []; values = [] } }

-- 2^-(k + 1)
abbrev part : ℕ → Float
part k = fin false 1 (negsuc k)

-- "Epsilon is 2^-52"
epsilon_is : epsilon binary64 ≡ part 51
epsilon_is = refl

module _ (x pr p : Float) where
  abbrev from : Float → ℕ → Run
  from b limit = preconditioned_gradient binary64 1 two factor half limit (b ∷ []) (x ∷ []) (pr ∷ []) (p ∷ [])

  -- case 10: b = 4, limit 5: x = 2, norms 4, 0
  case_10 : from (plus 4) 5
      ≡ record { end = state_of (plus 0 ∷ []) (plus 2 ∷ []) (plus 4 ∷ []) (plus 2 ∷ []) (plus 8); history = plus 4 ∷ plus 0 ∷ []; stopped = true }
  unfolding preconditioned_gradient preconditioned solve forward_row backward_row less_entries less_entry run moved redirected norm ratio squared is_settled dot_all dot_to product_of mult_vec mult_row add_row_at add_row add_entries add_entry add_product scaled_by scale_at add_scaled add_scaled_at scale_add scale_add_at zeroed zero_at copied copy_at each iterate steps put_at row_of sqrt nearest_root whole_root add sub mul div neg lt of_bits of_int round units span climb size sum odd
  case_10 = refl

  -- limit 0: norms 4, 4, Unsettled
  case_10_none : from (plus 4) 0
      ≡ record { end = state_of (plus 4 ∷ []) (plus 0 ∷ []) (plus 2 ∷ []) (plus 2 ∷ []) (plus 8); history = plus 4 ∷ plus 4 ∷ []; stopped = false }
  unfolding preconditioned_gradient preconditioned solve forward_row backward_row less_entries less_entry run moved redirected norm ratio squared is_settled dot_all dot_to product_of mult_vec mult_row add_row_at add_row add_entries add_entry add_product scaled_by scale_at add_scaled add_scaled_at scale_add scale_add_at zeroed zero_at copied copy_at each iterate steps put_at row_of sqrt nearest_root whole_root add sub mul div neg lt of_bits of_int round units span climb size sum odd
  case_10_none = refl

  case_10_verdicts : (preconditioned_verdict 5 (length (from (plus 4) 5).history) ≡ Settled) × (preconditioned_verdict 0 (length (from (plus 4) 0).history) ≡ Unsettled)
  case_10_verdicts = (rw case_10, rw case_10_none)

  -- case 11: b = 2^-27 is Empty, and b = 2^-26 is not at limit 5
  case_11 : from (part 26) 5 ≡ record { end = state_of (part 26 ∷ []) (plus 0 ∷ []) (pr ∷ []) (p ∷ []) (part 53); history = part 26 ∷ []; stopped = false }
  unfolding preconditioned_gradient preconditioned solve forward_row backward_row less_entries less_entry run moved redirected norm ratio squared is_settled dot_all dot_to product_of mult_vec mult_row add_row_at add_row add_entries add_entry add_product scaled_by scale_at add_scaled add_scaled_at scale_add scale_add_at zeroed zero_at copied copy_at each iterate steps put_at row_of sqrt nearest_root whole_root add sub mul div neg lt of_bits of_int round units span climb size sum odd
  case_11 = refl

  case_11_more : (from (part 25) 5).history ≡ part 25 ∷ plus 0 ∷ []
  unfolding preconditioned_gradient preconditioned solve forward_row backward_row less_entries less_entry run moved redirected norm ratio squared is_settled dot_all dot_to product_of mult_vec mult_row add_row_at add_row add_entries add_entry add_product scaled_by scale_at add_scaled add_scaled_at scale_add scale_add_at zeroed zero_at copied copy_at each iterate steps put_at row_of sqrt nearest_root whole_root add sub mul div neg lt of_bits of_int round units span climb size sum odd
  case_11_more = refl

  case_11_verdicts : (preconditioned_verdict 5 (length (from (part 26) 5).history) ≡ Empty) × (preconditioned_verdict 5 (length (from (part 25) 5).history) ≡ Settled)
  case_11_verdicts = (rw case_11, rw case_11_more)

module _ (u ap p : Float) where
  -- the plain solver on the same: a ratio of 0 after one step
  plain_10 : conjugate_gradient binary64 1 two half 5 (plus 4 ∷ []) (u ∷ []) (fin false 1 (pos 0) ∷ []) (p ∷ [])
      ≡ record { end = state_of (plus 0 ∷ []) (plus 2 ∷ []) (plus 8 ∷ []) (plus 4 ∷ []) (plus 16); history = plus 0 ∷ []; stopped = true }
  unfolding conjugate_gradient run moved turned norm ratio squared is_settled dot_all dot_to product_of mult_vec mult_row add_row_at add_row add_entries add_entry add_product scaled_by scale_at add_scaled add_scaled_at scale_add scale_add_at zeroed zero_at copied copy_at each iterate steps put_at row_of sqrt nearest_root whole_root add sub mul div neg lt of_bits of_int round units span climb size sum odd
  plain_10 = refl

  -- b = 2^-27 is Empty, and b = 2^-26 is not
  plain_11 : conjugate_gradient binary64 1 two half 5 (part 26 ∷ []) (u ∷ []) (ap ∷ []) (p ∷ [])
      ≡ record { end = state_of (part 26 ∷ []) (plus 0 ∷ []) (ap ∷ []) (p ∷ []) (part 53); history = []; stopped = false }
  unfolding conjugate_gradient run moved turned norm ratio squared is_settled dot_all dot_to product_of mult_vec mult_row add_row_at add_row add_entries add_entry add_product scaled_by scale_at add_scaled add_scaled_at scale_add scale_add_at zeroed zero_at copied copy_at each iterate steps put_at row_of sqrt nearest_root whole_root add sub mul div neg lt of_bits of_int round units span climb size sum odd
  plain_11 = refl

  plain_11_more : (conjugate_gradient binary64 1 two half 5 (part 25 ∷ []) (u ∷ []) (fin false 1 (pos 0) ∷ []) (p ∷ [])).history ≡ plus 0 ∷ []
  unfolding conjugate_gradient run moved turned norm ratio squared is_settled dot_all dot_to product_of mult_vec mult_row add_row_at add_row add_entries add_entry add_product scaled_by scale_at add_scaled add_scaled_at scale_add scale_add_at zeroed zero_at copied copy_at each iterate steps put_at row_of sqrt nearest_root whole_root add sub mul div neg lt of_bits of_int round units span climb size sum odd
  plain_11_more = refl

-- 2^k
abbrev power : ℕ → Float
power k = fin false 1 (pos k)

-- The hazard of an overflow: the right side (2^512, 2^512) has a squared norm of infinity, whose inverse is 0. A is 8 and 16, and the factor 1/8 and 1/8.
-- After one step a third of the right side is left, and the run is stopped as settled, at any tolerance above 0: here 2^-52.
overflow : (x y pr qr p q : Float)
    → let t = preconditioned_gradient binary64 1 (matrix_of (0 ∷ 0 ∷ 0 ∷ []) [] [] (plus 8 ∷ plus 16 ∷ []))
    (record { pattern = record { offsets = 0 ∷ 0 ∷ 0 ∷ []; columns = []; splits = 0 ∷ 0 ∷ [] }; values = record { diagonal = part 2 ∷ part 2 ∷ []; values = [] } })
    (part 51) 1 (power 512 ∷ power 512 ∷ []) (x ∷ y ∷ []) (pr ∷ qr ∷ []) (p ∷ q ∷ []) in
    (t.end.r ≡ fin false 3002399751580331 (pos 459) ∷ fin true 1501199875790165 (pos 460) ∷ []) × ((t.history ≡ inf false ∷ fin false 4246034448350515 (pos 459) ∷ []) × (t.stopped ≡ true))
unfolding preconditioned_gradient preconditioned solve forward_row backward_row less_entries less_entry run moved redirected norm ratio squared is_settled dot_all dot_to product_of mult_vec mult_row add_row_at add_row add_entries add_entry add_product scaled_by scale_at add_scaled add_scaled_at scale_add scale_add_at zeroed zero_at copied copy_at each iterate steps put_at row_of sqrt nearest_root whole_root add sub mul div neg lt of_bits of_int round units span climb size sum odd
overflow x y pr qr p q = (refl, (refl, refl))

-- Two steps, at N = 2: each of two rows of A is the block with 1 and 3 on its diagonal, and the right side is 1 everywhere. The first step halves the norm, and the second one ends at 0.
abbrev ones : List Float
ones = plus 1 ∷ plus 1 ∷ plus 1 ∷ plus 1 ∷ []

abbrev one_and_three : Matrix
one_and_three = matrix_of (0 ∷ 0 ∷ 0 ∷ []) [] [] (plus 1 ∷ plus 0 ∷ plus 0 ∷ plus 3 ∷ plus 1 ∷ plus 0 ∷ plus 0 ∷ plus 3 ∷ [])

abbrev halves : Factor
halves =
    record {
      pattern = record { offsets = 0 ∷ 0 ∷ 0 ∷ []; columns = []; splits = 0 ∷ 0 ∷ [] };
      values = record { diagonal = half ∷ plus 0 ∷ plus 0 ∷ half ∷ half ∷ plus 0 ∷ plus 0 ∷ half ∷ []; values = [] };
    }

module _ (x y z w : Float) where
  abbrev by_halves : ℕ → Run
  by_halves limit = preconditioned_gradient binary64 2 one_and_three halves half limit ones (x ∷ y ∷ z ∷ w ∷ []) (x ∷ y ∷ z ∷ w ∷ []) (x ∷ y ∷ z ∷ w ∷ [])

  -- The factor is 1/2 on the diagonal. The first ratio is the tolerance, 1/2, and so not below it. The norms are 2, 1, 0, and the first value of the solution is 1.
  two_steps : ((by_halves 5).history ≡ plus 2 ∷ plus 1 ∷ plus 0 ∷ []) × (get_or (by_halves 5).end.x 0 (plus 0) ≡ plus 1)
  unfolding preconditioned_gradient preconditioned solve forward_row backward_row less_entries less_entry run moved redirected norm ratio squared is_settled dot_all dot_to product_of mult_vec mult_row add_row_at add_row add_entries add_entry add_product scaled_by scale_at add_scaled add_scaled_at scale_add scale_add_at zeroed zero_at copied copy_at each iterate steps put_at row_of sqrt nearest_root whole_root add sub mul div neg lt of_bits of_int round units span climb size sum odd
  two_steps = (refl, refl)

  -- a limit of 1 ends between them, and the last norm comes twice
  one_of_two : (by_halves 1).history ≡ plus 2 ∷ plus 1 ∷ plus 1 ∷ []
  unfolding preconditioned_gradient preconditioned solve forward_row backward_row less_entries less_entry run moved redirected norm ratio squared is_settled dot_all dot_to product_of mult_vec mult_row add_row_at add_row add_entries add_entry add_product scaled_by scale_at add_scaled add_scaled_at scale_add scale_add_at zeroed zero_at copied copy_at each iterate steps put_at row_of sqrt nearest_root whole_root add sub mul div neg lt of_bits of_int round units span climb size sum odd
  one_of_two = refl

  two_steps_verdicts : (preconditioned_verdict 5 (length (by_halves 5).history) ≡ Settled) × (preconditioned_verdict 1 (length (by_halves 1).history) ≡ Unsettled)
  two_steps_verdicts = (rw two_steps.0, rw one_of_two)

  -- plain: the ratios are 1/2 and 0, so that the first is not below the tolerance and the last one is
  abbrev plainly : Run
  plainly = conjugate_gradient binary64 2 one_and_three half 5 ones (x ∷ y ∷ z ∷ w ∷ []) ones (x ∷ y ∷ z ∷ w ∷ [])

  plain_two_steps : plainly.history ≡ half ∷ plus 0 ∷ []
  unfolding conjugate_gradient run moved turned norm ratio squared is_settled dot_all dot_to product_of mult_vec mult_row add_row_at add_row add_entries add_entry add_product scaled_by scale_at add_scaled add_scaled_at scale_add scale_add_at zeroed zero_at copied copy_at each iterate steps put_at row_of sqrt nearest_root whole_root add sub mul div neg lt of_bits of_int round units span climb size sum odd
  plain_two_steps = refl

  plain_two_steps_verdict : plain_verdict half (length plainly.history) (last_of binary64 plainly.history) ≡ Settled
  unfolding lt of_int round units span climb size odd
  plain_two_steps_verdict = rw plain_two_steps

-- Three steps, at N = 1: A is 1, 2 and 3, the right side 1 everywhere, the tolerance 2^-10. From the second step on beta is over the squared norm of the step before, not over the first one.
three_steps : (x y z p q r : Float)
    → (conjugate_gradient binary64 1 (matrix_of (0 ∷ 0 ∷ 0 ∷ 0 ∷ []) [] [] (plus 1 ∷ plus 2 ∷ plus 3 ∷ [])) (part 9) 5 (plus 1 ∷ plus 1 ∷ plus 1 ∷ []) (x ∷ y ∷ z ∷ [])
    (plus 1 ∷ plus 1 ∷ plus 1 ∷ []) (p ∷ q ∷ r ∷ [])).history
    ≡ fin false 3677173697615391 (negsuc 52) ∷ fin false 2547620669010309 (negsuc 53) ∷ fin false 6369051672525773 (negsuc 107) ∷ []
unfolding conjugate_gradient run moved turned norm ratio squared is_settled dot_all dot_to product_of mult_vec mult_row add_row_at add_row add_entries add_entry add_product scaled_by scale_at add_scaled add_scaled_at scale_add scale_add_at zeroed zero_at copied copy_at each iterate steps put_at row_of sqrt nearest_root whole_root add sub mul div neg lt of_bits of_int round units span climb size sum odd
three_steps x y z p q r = refl
