-- The verdict theorem: what each verdict of a solve says of the right side, of the steps and of the history, and that it says so exactly.
-- `factor_below g t k`, or `plain_below t k`, says that the ratio of step k + 1 is below the tolerance. Assumes nothing.
use mathlib.Core.Path.{◌≡◌}
use mathlib.Core.Logic.{◌↔◌, ◌⊎◌, ⊎_elim}
use mathlib.Core.Bool.{true, false}
use Prim.Native.Nat.{ℕ, ◌+◌, ◌≤◌, ◌<◌}
use native.Mathlib.Omega.{arith}
use Rattle.solvers.specs.declared.Verdict.TheVariants.{Empty, Settled, Unsettled}
use Rattle.solvers.specs.Solvers.{Factor}
use Rattle.solvers.specs.Meaning.{Problem, below_epsilon, First, Some, None, EndsTwice, factor_below, factor_run, factor_count, factor_answer, plain_below, plain_count, plain_answer}
use Rattle.solvers.proofs.RunLaws.{first_of_some, some_of_first}
use Rattle.solvers.proofs.VerdictCases.{exactly_empty, exactly_unsettled, exactly_settled, other_run, whole, count_empty, count_unsettled, count_settled, tiny_empty, none_unsettled, some_settled, cases, twice, plain_count_empty, plain_count_unsettled, plain_count_settled, no_steps, tiny_or_none_empty, plain_none_unsettled, plain_some_settled, plain_cases}

-- ---- the preconditioned solver

module _ (g : Factor) (t : Problem) where
  -- Empty exactly if the right side's squared norm is below epsilon.
  pub empty_exactly : (factor_answer g t ≡ Empty) ↔ (below_epsilon t ≡ true)
  empty_exactly = exactly_empty _ _ _ _ (cases g t) (tiny_empty g t) (none_unsettled g t) (some_settled g t)

  -- Unsettled exactly if it is not, and none of the `limit` steps has a ratio below the tolerance.
  pub unsettled_exactly : (factor_answer g t ≡ Unsettled) ↔ ((below_epsilon t ≡ false) × None t.limit (factor_below g t))
  unsettled_exactly = exactly_unsettled _ _ _ _ (cases g t) (tiny_empty g t) (none_unsettled g t) (some_settled g t)

  -- Settled exactly if it is not, and some step has.
  pub settled_exactly : (factor_answer g t ≡ Settled) ↔ ((below_epsilon t ≡ false) × Some t.limit (factor_below g t))
  settled_exactly = exactly_settled _ _ _ _ (cases g t) (tiny_empty g t) (none_unsettled g t) (some_settled g t)

  -- Then there is a first such step k + 1, and the count is one more than its number.
  pub settled_count : factor_answer g t ≡ Settled → (k : ℕ) × (First t.limit (factor_below g t) k × (factor_count g t ≡ (k + 1) + 1))
  settled_count settled =
      let it = settled_exactly.0 settled in
      let first = first_of_some (factor_below g t) t.limit it.1 in
      (first.0, (first.1, count_settled g t first.0 it.0 first.1))

  -- And where a step k + 1 is the first one, the solve is Settled with that count.
  pub settled_at : (k : ℕ) → below_epsilon t ≡ false → First t.limit (factor_below g t) k → (factor_answer g t ≡ Settled) × (factor_count g t ≡ (k + 1) + 1)
  settled_at k other first = (settled_exactly.1 (other, some_of_first (factor_below g t) t.limit k first), count_settled g t k other first)

  -- The counts of the three never coincide: 1, limit + 2, and from 2 to limit + 1.
  pub empty_counts : factor_answer g t ≡ Empty → factor_count g t ≡ 1
  empty_counts empty = count_empty g t (empty_exactly.0 empty)

  pub unsettled_counts : factor_answer g t ≡ Unsettled → factor_count g t ≡ t.limit + 2
  unsettled_counts unsettled = let it = unsettled_exactly.0 unsettled in count_unsettled g t it.0 it.1

  pub settled_counts : factor_answer g t ≡ Settled → (2 ≤ factor_count g t) × (factor_count g t ≤ t.limit + 1)
  settled_counts settled =
      let it = settled_count settled in
      let within = it.1.0.within in
      let count = it.1.1 in
      (omega arith, omega arith)

  -- An Unsettled history ends with the same norm twice: that of the residual that is left.
  pub last_norm_twice : factor_answer g t ≡ Unsettled → EndsTwice t (factor_run g t)
  last_norm_twice unsettled =
      let it = unsettled_exactly.0 unsettled in
      rw (other_run g t it.0) (twice g t t.limit (whole g t it.1))

-- ---- the plain solver

module _ (t : Problem) where
  -- Empty exactly if the right side's squared norm is below epsilon, or the limit is 0: by 01's rule a count of 0 is Empty too.
  pub plain_empty_exactly : (plain_answer t ≡ Empty) ↔ ((below_epsilon t ≡ true) ⊎ (t.limit ≡ 0))
  plain_empty_exactly = exactly_empty _ _ _ _ (plain_cases t) (tiny_or_none_empty t) (plain_none_unsettled t) (plain_some_settled t)

  -- Unsettled exactly if it is not below epsilon, the limit is not 0, and none of the `limit` steps has a ratio below the tolerance.
  pub plain_unsettled_exactly : (plain_answer t ≡ Unsettled) ↔ ((below_epsilon t ≡ false) × ((0 < t.limit) × None t.limit (plain_below t)))
  plain_unsettled_exactly = exactly_unsettled _ _ _ _ (plain_cases t) (tiny_or_none_empty t) (plain_none_unsettled t) (plain_some_settled t)

  -- Settled exactly if it is not below epsilon, and some step has.
  pub plain_settled_exactly : (plain_answer t ≡ Settled) ↔ ((below_epsilon t ≡ false) × Some t.limit (plain_below t))
  plain_settled_exactly = exactly_settled _ _ _ _ (plain_cases t) (tiny_or_none_empty t) (plain_none_unsettled t) (plain_some_settled t)

  -- Then there is a first such step k + 1, and the count is its number.
  pub plain_settled_count : plain_answer t ≡ Settled → (k : ℕ) × (First t.limit (plain_below t) k × (plain_count t ≡ k + 1))
  plain_settled_count settled =
      let it = plain_settled_exactly.0 settled in
      let first = first_of_some (plain_below t) t.limit it.1 in
      (first.0, (first.1, plain_count_settled t first.0 it.0 first.1))

  -- And where a step k + 1 is the first one, the solve is Settled with that count.
  pub plain_settled_at : (k : ℕ) → below_epsilon t ≡ false → First t.limit (plain_below t) k → (plain_answer t ≡ Settled) × (plain_count t ≡ k + 1)
  plain_settled_at k other first = (plain_settled_exactly.1 (other, some_of_first (plain_below t) t.limit k first), plain_count_settled t k other first)

  -- The counts of the others are 0 and the limit. A count of the limit is also that of a solve whose last step is the first below the tolerance: here the count alone does not tell.
  pub plain_empty_counts : plain_answer t ≡ Empty → plain_count t ≡ 0
  plain_empty_counts empty = ⊎_elim (plain_count_empty t) (no_steps t) (plain_empty_exactly.0 empty)

  pub plain_unsettled_counts : plain_answer t ≡ Unsettled → plain_count t ≡ t.limit
  plain_unsettled_counts unsettled = let it = plain_unsettled_exactly.0 unsettled in plain_count_unsettled t it.0 it.1.1
