-- What the checks of lengths mean: the number of a call with two slices from the number of the first, and the lengths of a call that is not refused.
-- Assumes nothing.
use mathlib.Core.Path.{◌≡◌, refl, sym, ap, ◌∙◌}
use mathlib.Core.List.{List, [], ◌∷◌}
use mathlib.Core.Bool.{Bool, true, false, not, ◌||◌}
use Prim.Native.Nat.{ℕ, ◌*◌, ◌≤◌, ◌<◌}
use native.Mathlib.Omega.{arith}
use lib.Dec.{ltb}
use borrow.Author.Tests.{eq-eqb, ne_eqb, eqb-true, lt-ltb, le-ltb, ltb-false, not-false}
use Rattle.base.proofs.All.{or_left, or_right}
use Rattle.answers.specs.Checks.{Check, ◌when◌, first_of, order, in_order}
use Rattle.answers.specs.Limits.{rows_out_of_range, wrong_length, vector_checks}
use Rattle.answers.specs.Promise.{names}
use Rattle.vectors.specs.Checks.{pair_checks, long_flag_checks}

-- Each list comes in the table's order, and has neither 0 nor 9: so the number tells whether a call was refused, and fixes its answer.
pub vector_names : (n dim l : ℕ) → (names 0 (vector_checks n dim l) ≡ false) × (names 9 (vector_checks n dim l) ≡ false)
vector_names n dim l = (refl, refl)

pub pair_in_order : (n dim first second : ℕ) → in_order order (pair_checks n dim first second) ≡ true
pair_in_order n dim first second = refl

pub pair_names : (n dim first second : ℕ) → (names 0 (pair_checks n dim first second) ≡ false) × (names 9 (pair_checks n dim first second) ≡ false)
pair_names n dim first second = (refl, refl)

pub long_flag_in_order : (n dim values flags : ℕ) → in_order order (long_flag_checks n dim values flags) ≡ true
long_flag_in_order n dim values flags = refl

pub long_flag_names : (n dim values flags : ℕ) → (names 0 (long_flag_checks n dim values flags) ≡ false) × (names 9 (long_flag_checks n dim values flags) ≡ false)
long_flag_names n dim values flags = (refl, refl)

-- 1 under r, then 2 under a: the form of every list here
abbrev one_two : Bool → Bool → List Check
one_two r a = (1 when r) ∷ (2 when a) ∷ []

one_not_zero : ◌≡◌ {A = ℕ} 1 0 → ⊥
one_not_zero e = absurd (omega (arith, e))

two_not_zero : ◌≡◌ {A = ℕ} 2 0 → ⊥
two_not_zero e = absurd (omega (arith, e))

passed : (r a : Bool) → first_of (one_two r a) ≡ 0 → a ≡ false
passed true a done = absurd (one_not_zero done)
passed false true done = absurd (two_not_zero done)
passed false false done = refl

either_false : (a b : Bool) → (a || b) ≡ false → (a ≡ false) × (b ≡ false)
either_false a b h = (or_left a b h, or_right a b h)

-- where the first slice is refused, so is the call; where it is not, the second one decides
refused_already : (r a b : Bool) → (first_of (one_two r a) ≡ 0 → ⊥) → first_of (one_two r a) ≡ first_of (one_two r (a || b))
refused_already true a b other = refl
refused_already false true b other = refl
refused_already false false b other = absurd (other refl)

second_decides : (r a b c : Bool) → first_of (one_two r a) ≡ 0 → b ≡ c → first_of (one_two r (a || b)) ≡ first_of (one_two false c)
second_decides true a b c done is = absurd (one_not_zero done)
second_decides false true b c done is = absurd (two_not_zero done)
second_decides false false b c done is = ap (λ (t : Bool). first_of (one_two false t)) is

module _ (n dim first : ℕ) where
  vector_length_lem : first_of (vector_checks n dim first) ≡ 0 → first ≡ dim * n
  vector_length_lem done = eqb-true first (dim * n) (not-false _ (passed (rows_out_of_range n) (wrong_length n dim first) done))

  -- a second slice of the same length
  module _ (second : ℕ) where
    pub pair_refused : (first_of (vector_checks n dim first) ≡ 0 → ⊥) → first_of (vector_checks n dim first) ≡ first_of (pair_checks n dim first second)
    pair_refused = refused_already (rows_out_of_range n) (wrong_length n dim first) (wrong_length n dim second)

    pub pair_unlike : first_of (vector_checks n dim first) ≡ 0 → (second ≡ first → ⊥) → first_of (pair_checks n dim first second) ≡ 2
    pair_unlike done other =
        second_decides (rows_out_of_range n) (wrong_length n dim first) (wrong_length n dim second) true done
        (ap not (ne_eqb second (dim * n) (λ e. other (e ∙ sym (vector_length_lem done)))))

    pub pair_alike : first_of (vector_checks n dim first) ≡ 0 → second ≡ first → first_of (pair_checks n dim first second) ≡ 0
    pair_alike done same =
        second_decides (rows_out_of_range n) (wrong_length n dim first) (wrong_length n dim second) false done
        (ap not (eq-eqb second (dim * n) (same ∙ vector_length_lem done)))

    pub pair_lengths : first_of (pair_checks n dim first second) ≡ 0 → (first ≡ dim * n) × (second ≡ dim * n)
    pair_lengths done =
        let none = either_false (wrong_length n dim first) (wrong_length n dim second)
        (passed (rows_out_of_range n) (wrong_length n dim first || wrong_length n dim second) done) in
        (eqb-true first (dim * n) (not-false _ none.0), eqb-true second (dim * n) (not-false _ none.1))

    -- flags that may be longer
    pub long_flag_refused : (first_of (vector_checks n dim first) ≡ 0 → ⊥) → first_of (vector_checks n dim first) ≡ first_of (long_flag_checks n dim first second)
    long_flag_refused = refused_already (rows_out_of_range n) (wrong_length n dim first) (ltb second (dim * n))

    pub long_flag_short : first_of (vector_checks n dim first) ≡ 0 → second < first → first_of (long_flag_checks n dim first second) ≡ 2
    long_flag_short done less =
        second_decides (rows_out_of_range n) (wrong_length n dim first) (ltb second (dim * n)) true done
        (lt-ltb second (dim * n) (omega (arith, vector_length_lem done)))

    pub long_flag_enough : first_of (vector_checks n dim first) ≡ 0 → first ≤ second → first_of (long_flag_checks n dim first second) ≡ 0
    long_flag_enough done enough =
        second_decides (rows_out_of_range n) (wrong_length n dim first) (ltb second (dim * n)) false done
        (le-ltb second (dim * n) (omega (arith, vector_length_lem done)))

    pub long_flag_lengths : first_of (long_flag_checks n dim first second) ≡ 0 → first ≤ second
    long_flag_lengths done =
        let none = either_false (wrong_length n dim first) (ltb second (dim * n))
        (passed (rows_out_of_range n) (wrong_length n dim first || ltb second (dim * n)) done) in
        omega (arith, eqb-true first (dim * n) (not-false _ none.0), ltb-false second (dim * n) none.1)
