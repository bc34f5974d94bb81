-- The calls of `vectors` at 1, 2, 3 seen as one call with N as a number, and what its checks leave where N is none of these.
-- Assumes nothing.
use mathlib.Core.Path.{◌≡◌, refl, sym, ap, ◌∙◌}
use mathlib.Core.List.{List, [], ◌∷◌}
use mathlib.Core.Bool.{Bool, true, false, not, ◌||◌, cond}
use Prim.Native.Nat.{ℕ, zero, suc, ◌*◌, ◌%◌}
use native.Mathlib.Omega.{arith}
use lib.Dec.{eqb, ltb}
use lib.Ieee.{Float, Format}
use borrow.Author.Tests.{eq-eqb, lt-ltb, le-ltb}
use Rattle.std.specs.Prelude.{Err}
use Rattle.answers.specs.Numbers.{Answer, AnswerOf}
use Rattle.answers.specs.declared.Refusal.{Refusal}
use Rattle.answers.specs.Numbers.{number_of, refusal_number}
use Rattle.answers.specs.Checks.{Check, ◌when◌, first_of, none_holds}
use Rattle.answers.specs.Limits.{rows_out_of_range, outside_of, wrong_length, vector_checks}
use Rattle.answers.specs.Promise.{Ends}
use Rattle.answers.proofs.CheckOrder.{none_holds_lem}
use Rattle.vectors.specs.Checks.{pair_checks, long_flag_checks}
use Rattle.vectors.specs.Vectors.{dot_to}
use Rattle.vectors.specs.DotAnswers.{dot_values, Dotted}
use Rattle.vectors.proofs.DotLaws.{refused_dot}
use Rattle.vector_bytes.specs.Checks.{Lent, words, long_words, wrong_words, call_checks}

-- ---- at N = k the checks are those of the call of `vectors`

ones : (m : ℕ) → 1 * m ≡ m
ones m = omega arith

module _ (n k : ℕ) (inside : outside_of 1 3 k ≡ false) where
  abbrev under : Bool → List Check
  under wrong = (1 when rows_out_of_range n) ∷ (2 when wrong) ∷ []

  vector_same : (p : ℕ) → vector_checks n k p ≡ call_checks n k (words 1 p ∷ [])
  vector_same p = ap under (rw (inside, ones (k * n)) (last (wrong_length n k p)))
    where
      last : (a : Bool) → a ≡ a || false
      last true = refl
      last false = refl

  pair_same : (p q : ℕ) → pair_checks n k p q ≡ call_checks n k (words 1 p ∷ words 1 q ∷ [])
  pair_same p q = ap under (rw (inside, ones (k * n)) (last (wrong_length n k p) (wrong_length n k q)))
    where
      last : (a b : Bool) → a || b ≡ a || (b || false)
      last true b = refl
      last false true = refl
      last false false = refl

  long_same : (p q : ℕ) → long_flag_checks n k p q ≡ call_checks n k (words 1 p ∷ long_words 1 q ∷ [])
  long_same p q =
      let whole : q % 1 ≡ 0 = omega arith in
      ap under (rw (inside, ones (k * n), eq-eqb (q % 1) 0 whole) (last (wrong_length n k p) (ltb q (k * n))))
    where
      last : (a b : Bool) → a || b ≡ a || ((b || false) || false)
      last true b = refl
      last false true = refl
      last false false = refl

-- d is N, which is k
module _ {A : Type 0} (n d k : ℕ) (is : d ≡ k) (inside : outside_of 1 3 k ≡ false) (answer : Answer) (new old left : A) where
  pub at_vector : (p : ℕ) → Ends (vector_checks n k p) answer new old left → Ends (call_checks n d (words 1 p ∷ [])) answer new old left
  at_vector p end = rw is (rw (vector_same n k inside p) at end)

  pub at_pair : (p q : ℕ) → Ends (pair_checks n k p q) answer new old left → Ends (call_checks n d (words 1 p ∷ words 1 q ∷ [])) answer new old left
  at_pair p q end = rw is (rw (pair_same n k inside p q) at end)

  pub at_long_flags : (p q : ℕ) → Ends (long_flag_checks n k p q) answer new old left → Ends (call_checks n d (words 1 p ∷ long_words 1 q ∷ [])) answer new old left
  at_long_flags p q end = rw is (rw (long_same n k inside p q) at end)

pub at_dot : (f : Format) (u v : List Float) (n d k p q : ℕ) → d ≡ k → outside_of 1 3 k ≡ false → (dot : AnswerOf Float) → Dotted (pair_checks n k p q) (dot_to f k u v n) dot
    → Dotted (call_checks n d (words 1 p ∷ words 1 q ∷ [])) (dot_to f d u v n) dot
at_dot f u v n d k p q is inside dot end = rw is (rw (pair_same n k inside p q) at end)

-- ---- at no N

other_dim : (d : ℕ) → (d ≡ 1 → ⊥) → (d ≡ 2 → ⊥) → (d ≡ 3 → ⊥) → outside_of 1 3 d ≡ true
other_dim zero one two three = refl
other_dim (suc zero) one two three = absurd (one refl)
other_dim (suc (suc zero)) one two three = absurd (two refl)
other_dim (suc (suc (suc zero))) one two three = absurd (three refl)
other_dim (suc (suc (suc (suc d)))) one two three =
    rw (le-ltb (suc (suc (suc (suc d)))) 1 (omega arith), lt-ltb 3 (suc (suc (suc (suc d)))) (omega arith))

module _ (n d : ℕ) (one : d ≡ 1 → ⊥) (two : d ≡ 2 → ⊥) (three : d ≡ 3 → ⊥) (lent : List Lent) (why : Refusal)
    (number : refusal_number why ≡ cond (rows_out_of_range n) 1 2) where
  first_is : refusal_number why ≡ first_of (call_checks n d lent)
  first_is = rw (other_dim d one two three) number

  some_holds : none_holds (call_checks n d lent) ≡ false
  some_holds = rw (other_dim d one two three) (last (rows_out_of_range n))
    where
      last : (r : Bool) → none_holds ((1 when r) ∷ (2 when true) ∷ []) ≡ false
      last true = refl
      last false = refl

  pub at_no_dim : {A : Type 0} (new old : A) → Ends (call_checks n d lent) (Err why) new old old
  at_no_dim new old = record { number = first_is; lent = rw some_holds }

  pub dot_at_no_dim : (sum : Float) → Dotted (call_checks n d lent) sum (Err why)
  dot_at_no_dim sum = refused_dot (call_checks n d lent) sum refl (Err why) why refl first_is

-- ---- a call that no check refuses

pub done_of : {A : Type 0} (checks : List Check) (answer : Answer) (new old left : A) → none_holds checks ≡ true → Ends checks answer new old left
    → (number_of answer ≡ 0) × (left ≡ new)
done_of checks answer new old left none end = (end.number ∙ none_holds_lem checks none, rw none at end.lent)

pub sum_of : (checks : List Check) (sum : Float) (dot : AnswerOf Float) → none_holds checks ≡ true → Dotted checks sum dot
    → (number_of dot ≡ 0) × (dot_values dot ≡ (sum ∷ [], []))
sum_of checks sum dot none end = (end.number ∙ none_holds_lem checks none, rw none at end.values)

-- and back: a call whose checks find nothing, and that is done
pub worked : {A : Type 0} (checks : List Check) (answer : Answer) (new old left : A) → none_holds checks ≡ true → number_of answer ≡ 0 → left ≡ new
    → Ends checks answer new old left
worked checks answer new old left none number right = record { number = number ∙ sym (none_holds_lem checks none); lent = rw none right }

pub summed : (checks : List Check) (sum : Float) (dot : AnswerOf Float) → none_holds checks ≡ true → number_of dot ≡ 0 → dot_values dot ≡ (sum ∷ [], []) → Dotted checks sum dot
summed checks sum dot none number right = record { number = number ∙ sym (none_holds_lem checks none); values = rw none right }
