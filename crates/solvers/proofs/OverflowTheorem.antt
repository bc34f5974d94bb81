-- A right side whose squared norm overflows to infinity. Its inverse is +0, so a step's ratio is 0 where the step leaves a finite squared norm, however large, and NaN where it does not.
-- The preconditioned solver can so answer Settled far from the solution; the plain one, whose steps start from the infinite squared norm, never does. Assumes nothing.
use mathlib.Core.Path.{◌≡◌, refl, sym, ap, ◌∙◌}
use mathlib.Core.Logic.{◌↔◌, inr, ⊎_elim}
use mathlib.Core.List.{List}
use mathlib.Core.Bool.{Bool, true, false, ◌&&◌, true≢false}
use Prim.Native.Nat.{ℕ, zero, suc, ◌+◌, ◌<◌}
use native.Mathlib.Omega.{arith}
use lib.ListN.{length, get_or, get_or-eq_default}
use lib.Ieee.{Float, nan, inf, Format, neg, div, lt}
use lib.Ieee.Scale.{finite}
use Rattle.base.proofs.All.{both, and_left, and_right}
use Rattle.base.proofs.Each.{length_each, get_d_each}
use Rattle.blocks.specs.Block.{plus_zero}
use Rattle.patterns.specs.Pattern.{rows_of}
use Rattle.vectors.specs.Vectors.{add_scaled_at, add_scaled, dot_to}
use Rattle.root.proofs.Numbers.{lt_or_le}
use Rattle.solvers.specs.declared.Verdict.TheVariants.{Empty, Settled, Unsettled}
use Rattle.solvers.specs.Method.{Matrix, State, dot_all, product_of, moved, squared, ratio}
use Rattle.solvers.specs.Solvers.{turned, Factor}
use Rattle.solvers.specs.Meaning.{Problem, first_square, first_inverse, below_epsilon, before, stepped, First, Some, factor_method, factor_start, factor_square, factor_finite, above_zero, factor_ratio, factor_below, factor_count, factor_answer, plain_method, plain_start, plain_ratio, plain_answer}
use Rattle.solvers.proofs.FloatLaws.{finite_add_right, finite_mul, finite_div, finite_neg, square_infinite, zero_is, no_places, inverse_inf, finite_ratio, infinite_ratio}
use Rattle.solvers.proofs.VerdictTheorem.{empty_exactly, settled_exactly, settled_count, plain_empty_exactly, plain_unsettled_exactly}

-- the ratio that a state has to an infinite norm, whose inverse is +0
module _ (f : Format) (n : ℕ) (a : Matrix) (inverse : Float) (is_zero : inverse ≡ plus_zero f) (s : State) where
  infinite_is_nan : finite (squared f n a s) ≡ false → ratio f n a inverse s ≡ nan
  unfolding ratio
  infinite_is_nan e = rw (is_zero, zero_is f) (infinite_ratio f (squared f n a s) e)

  ratio_below : (tolerance : Float) → lt (ratio f n a inverse s) tolerance ≡ (finite (squared f n a s) && lt (plus_zero f) tolerance)
  unfolding ratio lt
  ratio_below tolerance = go (finite (squared f n a s)) refl
    where
      go : (b : Bool) → finite (squared f n a s) ≡ b → lt (ratio f n a inverse s) tolerance ≡ (b && lt (plus_zero f) tolerance)
      go true e = rw (is_zero, zero_is f) (finite_ratio f (squared f n a s) tolerance e)
      go false e = rw (infinite_is_nan e)

-- A step from a rho that is not finite leaves no finite value of the residual: alpha is an infinity or NaN, and so is its product with any value.
moved_infinite : (f : Format) (n : ℕ) (a : Matrix) (s : State) → finite s.rho ≡ false → (j : ℕ) → finite (get_or (moved f n a s).r j nan) ≡ false
unfolding moved add_scaled add_scaled_at
moved_infinite f n a s rho j =
    let q = product_of f n a s.p s.q in
    let alpha = neg (div f s.rho (dot_all f n a s.p q)) in
    let long = length_each (add_scaled_at f alpha q) s.r in
    let product = finite_mul f (get_or q j nan) alpha (finite_neg (div f s.rho (dot_all f n a s.p q)) ∙ finite_div f s.rho (dot_all f n a s.p q) rho) in
    ⊎_elim (λ inside. ap finite (get_d_each (add_scaled_at f alpha q) s.r j nan inside) ∙ finite_add_right f (get_or s.r j nan) _ product)
    (λ past. ap finite (get_or-eq_default (add_scaled f alpha q s.r) nan {n = j} (omega (arith, long, past)))) (lt_or_le j (length s.r))

-- A squared norm that is infinite has rows and places: without them it is +0.
zero_not_inf : (f : Format) → plus_zero f ≡ inf false → ⊥
zero_not_inf f e = true≢false (ap finite (sym (zero_is f) ∙ e))

dot_rows : (f : Format) (n : ℕ) (u : List Float) (rows : ℕ) → dot_to f n u u rows ≡ inf false → 0 < rows
unfolding dot_to
dot_rows f n u zero e = absurd (zero_not_inf f e)
dot_rows f n u (suc rows) e = omega arith

dot_places : (f : Format) (n : ℕ) (u : List Float) (rows : ℕ) → dot_to f n u u rows ≡ inf false → 0 < n
dot_places f zero u rows e = absurd (zero_not_inf f (sym (no_places f u u rows) ∙ e))
dot_places f (suc n) u rows e = omega arith

-- The right side's squared norm overflows.
module _ (t : Problem) (huge : first_square t ≡ inf false) where
  -- its inverse is +0, and it is not below epsilon
  pub huge_inverse : first_inverse t ≡ plus_zero t.format
  unfolding first_inverse
  huge_inverse = rw huge (inverse_inf t.format)

  pub huge_other : below_epsilon t ≡ false
  unfolding lt
  huge_other = rw huge

  -- ---- preconditioned
  module _ (g : Factor) where
    -- A step's ratio is below the tolerance exactly if it leaves a finite squared norm and the tolerance is above zero.
    pub huge_below : (k : ℕ) → factor_below g t k ≡ (factor_finite g t k && above_zero t)
    unfolding factor_ratio factor_square
    huge_below k = ratio_below t.format t.width t.matrix (first_inverse t) huge_inverse (stepped (factor_method g t) (factor_start g t) k) t.tolerance

    -- The solve is not Empty. It is Settled exactly if the tolerance is above zero and some step leaves a finite squared norm.
    pub huge_not_empty : factor_answer g t ≡ Empty → ⊥
    huge_not_empty empty = true≢false (sym ((empty_exactly g t).0 empty) ∙ huge_other)

    pub huge_settled_exactly : (factor_answer g t ≡ Settled) ↔ ((above_zero t ≡ true) × Some t.limit (factor_finite g t))
    huge_settled_exactly = (λ settled. settled_some ((settled_exactly g t).0 settled).1, λ it. (settled_exactly g t).1 (huge_other, some_below it))
      where
        settled_some : Some t.limit (factor_below g t) → (above_zero t ≡ true) × Some t.limit (factor_finite g t)
        settled_some (k, (within, passes)) =
            let so = sym (huge_below k) ∙ passes in
            (and_right (factor_finite g t k) (above_zero t) so, (k, (within, and_left (factor_finite g t k) (above_zero t) so)))

        some_below : (above_zero t ≡ true) × Some t.limit (factor_finite g t) → Some t.limit (factor_below g t)
        some_below (above, (k, (within, leaves))) = (k, (within, huge_below k ∙ both leaves above))

    -- Then it stops at the first such step k + 1, and the count is one more than its number.
    pub huge_settled_count : factor_answer g t ≡ Settled → (k : ℕ) × (First t.limit (factor_finite g t) k × (factor_count g t ≡ (k + 1) + 1))
    huge_settled_count settled =
        let above = (huge_settled_exactly.0 settled).0 in
        let it = settled_count g t settled in
        let k = it.0 in (
          k,
          (
            record {
              within = it.1.0.within;
              passes = and_left (factor_finite g t k) (above_zero t) (sym (huge_below k) ∙ it.1.0.passes);
              earliest = λ i h. not_finite i above (it.1.0.earliest i h);
            },
            it.1.1,
          ),
        )
      where
        not_finite : (i : ℕ) → above_zero t ≡ true → factor_below g t i ≡ false → factor_finite g t i ≡ false
        not_finite i above not_below = go (factor_finite g t i) (huge_below i)
          where
            go : (b : Bool) → factor_below g t i ≡ (b && above_zero t) → b ≡ false
            go true e = absurd (true≢false (sym above ∙ sym e ∙ not_below))
            go false e = refl

  -- ---- plain
  some_rows : 0 < rows_of t.matrix.offsets
  unfolding first_square dot_all
  some_rows = dot_rows t.format t.width t.r (rows_of t.matrix.offsets) huge

  some_places : 0 < t.width
  unfolding first_square dot_all
  some_places = dot_places t.format t.width t.r (rows_of t.matrix.offsets) huge

  -- no step leaves a finite squared norm
  square_of_moved : (s : State) → finite s.rho ≡ false → finite (squared t.format t.width t.matrix (moved t.format t.width t.matrix s)) ≡ false
  unfolding squared
  square_of_moved s rho = square_infinite t.format t.width t.matrix _ some_places some_rows (moved_infinite t.format t.width t.matrix s rho)

  rho_infinite : (k : ℕ) → finite (before (plain_method t) (plain_start t) k).rho ≡ false
  unfolding before turned
  rho_infinite zero = ap finite huge
  rho_infinite (suc k) = square_of_moved (before (plain_method t) (plain_start t) k) (rho_infinite k)

  -- Every ratio of the plain solver is NaN.
  pub huge_plain_ratio : (k : ℕ) → plain_ratio t k ≡ nan
  unfolding plain_ratio
  huge_plain_ratio k =
      infinite_is_nan t.format t.width t.matrix (first_inverse t) huge_inverse (stepped (plain_method t) (plain_start t) k) (square_of_moved (before (plain_method t) (plain_start t) k) (rho_infinite k))

  -- So it answers Unsettled, unless the limit is 0, where it takes no step and is Empty by 01's rule.
  pub huge_plain_unsettled : 0 < t.limit → plain_answer t ≡ Unsettled
  unfolding lt
  huge_plain_unsettled some = (plain_unsettled_exactly t).1 (huge_other, (some, λ k h. rw (huge_plain_ratio k)))

  pub huge_plain_empty : t.limit ≡ 0 → plain_answer t ≡ Empty
  huge_plain_empty none = (plain_empty_exactly t).1 (inr none)
