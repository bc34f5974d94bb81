-- The three cases of a solve, for either solver: the right side's squared norm is below epsilon, no step's ratio is below the tolerance, or some step's is. What the count and the verdict are in each.
-- Assumes nothing.
use mathlib.Core.Path.{◌≡◌, refl, sym, ap, ◌∙◌}
use mathlib.Core.Logic.{◌↔◌, ◌⊎◌, inl, inr, ⊎_elim}
use mathlib.Core.List.{List, [], ◌∷◌, ◌++◌, append_assoc}
use mathlib.Core.Bool.{Bool, true, false}
use Prim.Native.Nat.{ℕ, zero, suc, ◌+◌, ◌-◌, ◌<◌}
use native.Mathlib.Nat.{eq-zero-or-pos}
use native.Mathlib.Omega.{arith}
use lib.ListN.{length, get_or, take, length-append, drop_of_length-le}
use lib.Seq.{split_at}
use lib.Ieee.{Float, Format, nan}
use borrow.Author.Tests.{eq-eqb, ne_eqb}
use Rattle.root.specs.Sqrt.{sqrt}
use Rattle.solvers.specs.declared.Verdict.{Verdict}
use Rattle.solvers.specs.declared.Verdict.TheVariants.{Empty, Settled, Unsettled}
use Rattle.solvers.specs.Method.{Matrix, State, Run, squared, norm, run}
use Rattle.solvers.specs.Solvers.{is_settled, conjugate_gradient, Factor, redirected, with_norms, preconditioned_gradient}
use Rattle.solvers.specs.Verdict.{last_of}
use Rattle.solvers.specs.Meaning.{Problem, first_square, first_inverse, below_epsilon, before, First, Some, None, EndsTwice, factor_method, factor_start, factor_ratio, factor_below, factor_run, factor_count, factor_answer, plain_method, plain_start, plain_ratio, plain_below, plain_run, plain_count, plain_answer}
use Rattle.solvers.proofs.RunLaws.{first_or_none, first_of_some, some_of_first, Whole, Ended, run_whole, run_ended, run_number, last_ended, last_whole}

-- Three cases, of which one holds, and each of which has a verdict of its own: then each verdict is given exactly in its case.
module _ (v : Verdict) (E U S : Type 0) (cases : E ⊎ (U ⊎ S)) (e : E → v ≡ Empty) (u : U → v ≡ Unsettled) (s : S → v ≡ Settled) where
  apart : {A : Type 0} (a b : Verdict) → (◌≡◌ {A = Verdict} a b → ◌≡◌ {A = ℕ} 0 1) → v ≡ a → v ≡ b → A
  apart a b differ p q = let z : ◌≡◌ {A = ℕ} 0 1 = differ (sym p ∙ q) in absurd (omega arith)

  pub exactly_empty : (v ≡ Empty) ↔ E
  exactly_empty = (λ h. ⊎_elim (λ x. x) (⊎_elim (λ x. apart Empty Unsettled (λ p. cc) h (u x)) (λ x. apart Empty Settled (λ p. cc) h (s x))) cases, e)

  pub exactly_unsettled : (v ≡ Unsettled) ↔ U
  exactly_unsettled = (λ h. ⊎_elim (λ x. apart Unsettled Empty (λ p. cc) h (e x)) (⊎_elim (λ x. x) (λ x. apart Unsettled Settled (λ p. cc) h (s x))) cases, u)

  pub exactly_settled : (v ≡ Settled) ↔ S
  exactly_settled = (λ h. ⊎_elim (λ x. apart Settled Empty (λ p. cc) h (e x)) (⊎_elim (λ x. apart Settled Unsettled (λ p. cc) h (u x)) (λ x. x)) cases, s)

is_either : (b : Bool) → (b ≡ true) ⊎ (b ≡ false)
is_either true = inl refl
is_either false = inr refl

-- ---- the preconditioned solver

-- what the norms around the steps add to the count
module _ (f : Format) (n : ℕ) (a : Matrix) (first : Float) (u : Run) where
  two_more : u.stopped ≡ false → length (with_norms f n a first u).history ≡ length u.history + 2
  two_more e = rw e (omega (arith, length-append u.history (norm f n a u.end ∷ [])))

  one_more : u.stopped ≡ true → length (with_norms f n a first u).history ≡ length u.history + 1
  one_more e = rw e (omega (arith, length-append u.history []))

-- a list that ends with x, and then x once more
twice_more : (first x : Float) (h : List Float) (l : ℕ) → length h ≡ suc l → get_or h l nan ≡ x → first ∷ (h ++ (x ∷ [])) ≡ (first ∷ take l h) ++ (x ∷ x ∷ [])
twice_more first x h l long last =
    let split : h ≡ take l h ++ (x ∷ []) = split_at h l nan (omega arith) ∙ rw (last, drop_of_length-le h {i = suc l} (omega arith)) in
    ap (λ (u : List Float). first ∷ (u ++ (x ∷ []))) split ∙ ap (λ (u : List Float). first ∷ u) (append_assoc (take l h) (x ∷ []) (x ∷ []))

module _ (g : Factor) (t : Problem) where
  abbrev pub first_norm : Float
  first_norm = sqrt t.format (first_square t)

  abbrev pub steps : Run
  steps = run (factor_method g t) t.limit (factor_start g t)

  -- below epsilon the history is one norm, and else the steps' numbers stand between two norms
  tiny_history : below_epsilon t ≡ true → (factor_run g t).history ≡ first_norm ∷ []
  unfolding preconditioned_gradient first_square
  tiny_history tiny = rw tiny

  pub other_run : below_epsilon t ≡ false → factor_run g t ≡ with_norms t.format t.width t.matrix first_norm steps
  unfolding preconditioned_gradient first_square first_inverse
  other_run other = rw other

  pub whole : None t.limit (factor_below g t) → Whole (factor_method g t) t.limit (factor_start g t)
  unfolding is_settled factor_ratio
  whole none = run_whole (factor_method g t) t.limit (factor_start g t) none

  ended : (k : ℕ) → First t.limit (factor_below g t) k → Ended (factor_method g t) t.limit (factor_start g t) k
  unfolding is_settled factor_ratio
  ended k found = run_ended (factor_method g t) t.limit (factor_start g t) k (record { within = found.within; passes = found.passes; earliest = found.earliest })

  -- the counts: 1, limit + 2, and one more than the number of the first step whose ratio is below the tolerance
  pub count_empty : below_epsilon t ≡ true → factor_count g t ≡ 1
  unfolding factor_count
  count_empty tiny = ap (length {A = Float}) (tiny_history tiny)

  pub count_unsettled : below_epsilon t ≡ false → None t.limit (factor_below g t) → factor_count g t ≡ t.limit + 2
  unfolding factor_count
  count_unsettled other none =
      let it = whole none in
      ap (λ (u : Run). length u.history) (other_run other) ∙ two_more t.format t.width t.matrix first_norm steps it.goes ∙ ap (λ (c : ℕ). c + 2) it.long

  pub count_settled : (k : ℕ) → below_epsilon t ≡ false → First t.limit (factor_below g t) k → factor_count g t ≡ (k + 1) + 1
  unfolding factor_count
  count_settled k other found =
      let it = ended k found in
      let one : length steps.history ≡ k + 1 = omega (arith, it.long) in
      ap (λ (u : Run). length u.history) (other_run other) ∙ one_more t.format t.width t.matrix first_norm steps it.stops ∙ ap (λ (c : ℕ). c + 1) one

  -- each case has its verdict
  pub tiny_empty : below_epsilon t ≡ true → factor_answer g t ≡ Empty
  unfolding factor_answer
  tiny_empty tiny = rw (eq-eqb (factor_count g t) 1 (count_empty tiny))

  pub none_unsettled : (below_epsilon t ≡ false) × None t.limit (factor_below g t) → factor_answer g t ≡ Unsettled
  unfolding factor_answer
  none_unsettled (other, none) =
      let count = count_unsettled other none in
      rw (ne_eqb (factor_count g t) 1 (λ e. omega (arith, count, e)), eq-eqb (factor_count g t) (t.limit + 2) count)

  pub some_settled : (below_epsilon t ≡ false) × Some t.limit (factor_below g t) → factor_answer g t ≡ Settled
  unfolding factor_answer
  some_settled (other, some) =
      let first = first_of_some (factor_below g t) t.limit some in
      let count = count_settled first.0 other first.1 in
      let within = first.1.within in
      rw (ne_eqb (factor_count g t) 1 (λ e. omega (arith, count, e)), ne_eqb (factor_count g t) (t.limit + 2) (λ e. omega (arith, count, e)))

  pub cases : (below_epsilon t ≡ true) ⊎ (((below_epsilon t ≡ false) × None t.limit (factor_below g t)) ⊎ ((below_epsilon t ≡ false) × Some t.limit (factor_below g t)))
  cases = ⊎_elim inl (λ other. inr (⊎_elim (λ found. inr (other, some_of_first (factor_below g t) t.limit found.0 found.1)) (λ none. inl (other, none)) (first_or_none (factor_below g t) t.limit))) (is_either (below_epsilon t))

  -- The last of the steps' numbers is the norm of what they leave, since a new direction changes no residual; where there is no step it is the right side's.
  pub twice : (limit : ℕ) → Whole (factor_method g t) limit (factor_start g t) → EndsTwice t (with_norms t.format t.width t.matrix first_norm (run (factor_method g t) limit (factor_start g t)))
  unfolding run before redirected norm squared first_square
  twice zero it = ([], refl)
  twice (suc l) it =
      let m = factor_method g t in
      let s = factor_start g t in
      let h = (run m (suc l) s).history in
      let norm_of : State → Float = norm t.format t.width t.matrix in
      let x = norm_of (run m (suc l) s).end in
      let last : get_or h l nan ≡ x = run_number m (suc l) s l nan (omega (arith, it.long)) ∙ sym (ap norm_of it.leaves) in
      (first_norm ∷ take l h, rw it.goes (twice_more first_norm x h l it.long last))

-- ---- the plain solver

module _ (t : Problem) where
  tiny_plain : below_epsilon t ≡ true → (plain_run t).history ≡ []
  unfolding conjugate_gradient first_square
  tiny_plain tiny = rw tiny

  other_plain : below_epsilon t ≡ false → plain_run t ≡ run (plain_method t) t.limit (plain_start t)
  unfolding conjugate_gradient first_square first_inverse
  other_plain other = rw other

  whole_plain : None t.limit (plain_below t) → Whole (plain_method t) t.limit (plain_start t)
  unfolding is_settled plain_ratio
  whole_plain none = run_whole (plain_method t) t.limit (plain_start t) none

  ended_plain : (k : ℕ) → First t.limit (plain_below t) k → Ended (plain_method t) t.limit (plain_start t) k
  unfolding is_settled plain_ratio
  ended_plain k found = run_ended (plain_method t) t.limit (plain_start t) k (record { within = found.within; passes = found.passes; earliest = found.earliest })

  -- the counts: 0, the limit, and the number of the first step whose ratio is below the tolerance
  pub plain_count_empty : below_epsilon t ≡ true → plain_count t ≡ 0
  unfolding plain_count
  plain_count_empty tiny = ap (length {A = Float}) (tiny_plain tiny)

  pub plain_count_unsettled : below_epsilon t ≡ false → None t.limit (plain_below t) → plain_count t ≡ t.limit
  unfolding plain_count
  plain_count_unsettled other none = ap (λ (u : Run). length u.history) (other_plain other) ∙ (whole_plain none).long

  pub plain_count_settled : (k : ℕ) → below_epsilon t ≡ false → First t.limit (plain_below t) k → plain_count t ≡ k + 1
  unfolding plain_count
  plain_count_settled k other found =
      let one : suc k ≡ k + 1 = omega arith in
      ap (λ (u : Run). length u.history) (other_plain other) ∙ (ended_plain k found).long ∙ one

  -- the last ratio is that of the last step taken
  last_unsettled : below_epsilon t ≡ false → 0 < t.limit → None t.limit (plain_below t) → last_of t.format (plain_run t).history ≡ plain_ratio t (t.limit - 1)
  unfolding plain_ratio
  last_unsettled other some none =
      ap (λ (u : Run). last_of t.format u.history) (other_plain other) ∙ last_whole (plain_method t) t.limit (plain_start t) _ some (whole_plain none)

  last_settled : (k : ℕ) → below_epsilon t ≡ false → First t.limit (plain_below t) k → last_of t.format (plain_run t).history ≡ plain_ratio t k
  unfolding plain_ratio
  last_settled k other found =
      ap (λ (u : Run). last_of t.format u.history) (other_plain other) ∙ last_ended (plain_method t) t.limit (plain_start t) k _ (ended_plain k found)

  -- each case has its verdict
  count_is_zero : plain_count t ≡ 0 → plain_answer t ≡ Empty
  unfolding plain_answer
  count_is_zero zero-count = rw (eq-eqb (plain_count t) 0 zero-count)

  pub no_steps : t.limit ≡ 0 → plain_count t ≡ 0
  no_steps none =
      ⊎_elim plain_count_empty (λ other. plain_count_unsettled other (λ k h. absurd (omega (arith, none, h))) ∙ none) (is_either (below_epsilon t))

  pub tiny_or_none_empty : (below_epsilon t ≡ true) ⊎ (t.limit ≡ 0) → plain_answer t ≡ Empty
  tiny_or_none_empty (inl tiny) = count_is_zero (plain_count_empty tiny)
  tiny_or_none_empty (inr none) = count_is_zero (no_steps none)

  pub plain_none_unsettled : (below_epsilon t ≡ false) × ((0 < t.limit) × None t.limit (plain_below t)) → plain_answer t ≡ Unsettled
  unfolding plain_answer
  plain_none_unsettled (other, (some, none)) =
      rw (ne_eqb (plain_count t) 0 (λ e. omega (arith, plain_count_unsettled other none, e)), last_unsettled other some none, none (t.limit - 1) (omega arith))

  pub plain_some_settled : (below_epsilon t ≡ false) × Some t.limit (plain_below t) → plain_answer t ≡ Settled
  unfolding plain_answer
  plain_some_settled (other, some) =
      let first = first_of_some (plain_below t) t.limit some in
      let count = plain_count_settled first.0 other first.1 in
      rw (ne_eqb (plain_count t) 0 (λ e. omega (arith, count, e)), last_settled first.0 other first.1, first.1.passes)

  pub plain_cases : ((below_epsilon t ≡ true) ⊎ (t.limit ≡ 0)) ⊎ (((below_epsilon t ≡ false) × ((0 < t.limit) × None t.limit (plain_below t))) ⊎ ((below_epsilon t ≡ false) × Some t.limit (plain_below t)))
  plain_cases = ⊎_elim (λ tiny. inl (inl tiny)) (λ other. ⊎_elim (λ none. inl (inr none)) (λ some. inr (⊎_elim (λ found. inr (other, some_of_first (plain_below t) t.limit found.0 found.1)) (λ none. inl (other, (some, none))) (first_or_none (plain_below t) t.limit))) (eq-zero-or-pos t.limit)) (is_either (below_epsilon t))
