-- The ends of `decompose` with N as a number: it is the call at that N, or refused before, or its later checks decide. And its promise fixes all of it.
-- Assumes nothing.
use mathlib.Core.Path.{◌≡◌, refl, sym, ap, ◌∙◌}
use mathlib.Core.List.{List, [], ◌∷◌, ◌++◌}
use mathlib.Core.Bool.{Bool, true, false, not, cond, ◌||◌}
use Prim.Native.Nat.{ℕ}
use native.Mathlib.Omega.{arith}
use lib.Dec.{eqb}
use lib.ListN.{length, get_or}
use lib.Ieee.{Format}
use borrow.Author.Tests.{ne_eqb}
use Rattle.std.specs.Prelude.{Err}
use Rattle.answers.specs.Numbers.{Answer}
use Rattle.answers.specs.declared.Refusal.{Refusal}
use Rattle.answers.specs.declared.Refusal.TheVariants.{Size, Shape}
use Rattle.answers.specs.Numbers.{number_of, refusal_number, row_of, refusal_row}
use Rattle.answers.specs.Checks.{Check, ◌when◌, first_of, none_holds}
use Rattle.answers.specs.Limits.{outside_of}
use Rattle.answers.proofs.SameAnswer.{same_number}
use Rattle.answers.proofs.EndLaws.{left_to_later}
use Rattle.patterns.specs.Checks.{too_large}
use Rattle.patterns.specs.Pattern.{rows_of, valid_pattern, valid_splits}
use Rattle.factors.specs.Factor.{FactorPattern, FactorValues, decompose}
use Rattle.factor_check.specs.Checks.{wrong_factor}
use Rattle.decompose.specs.Promise.{has_stopped, stopped_rows, decompose_checks, Decomposes}
use Rattle.numbered.specs.Checks.{dim_checks}
use Rattle.numbered.proofs.NumberedLaws.{other_dim}
use Rattle.numbered_factors.specs.Calls.{Factored}

-- ---- the row of an answer

first_of_lem : (nine : Bool) (rows : List ℕ) → get_or (cond nine rows []) 0 0 ≡ cond nine (get_or rows 0 0) 0
first_of_lem true rows = refl
first_of_lem false rows = refl

-- 1 and 2 carry none
unrowed : (large : Bool) (why : Refusal) → refusal_number why ≡ cond large 1 2 → refusal_row why ≡ 0
unrowed true why is = ap row_of (same_number (Err why) (Err Size) is (λ nine. omega (arith, is, nine)))
unrowed false why is = ap row_of (same_number (Err why) (Err Shape) is (λ nine. omega (arith, is, nine)))

-- ---- a call that an earlier check refuses

pub factored_refused : {A : Type 0} (f : Format) (earlier : List Check) (n : ℕ) (t : FactorPattern) (s : FactorValues) (number row : ℕ) (new old : A)
    → number ≡ first_of (earlier ++ decompose_checks f n t s) → (number ≡ 0 → ⊥) → (number ≡ 9 → ⊥) → row ≡ 0 → Factored f earlier n t s number row new old old
factored_refused f earlier n t s number row new old first some not_nine none =
    record { first = first; row_is = rw (ne_eqb number 9 not_nine) none; lent = rw (ne_eqb number 0 some, ne_eqb number 9 not_nine) }

-- and one whose earlier checks have passed
pub factored_later : {A : Type 0} (f : Format) (earlier : List Check) (n : ℕ) (t : FactorPattern) (s : FactorValues) (number row : ℕ) (new old left : A)
    → none_holds earlier ≡ true → Factored f [] n t s number row new old left → Factored f earlier n t s number row new old left
factored_later f earlier n t s number row new old left none end =
    record { first = end.first ∙ sym (left_to_later earlier (decompose_checks f n t s) none); row_is = end.row_is; lent = end.lent }

-- ---- at 1, 2, 3 the call's own check of its size, which comes first, may as well come twice

size_twice : (large outside : Bool) (later : List Check) → outside ≡ false → first_of ((1 when large) ∷ (2 when outside) ∷ (1 when large) ∷ later) ≡ first_of ((1 when large) ∷ later)
size_twice true outside later inside = refl
size_twice false outside later inside = rw inside

module _ (f : Format) (n : ℕ) (t : FactorPattern) (s : FactorValues) (inside : outside_of 1 3 n ≡ false) where
  same_first : first_of (dim_checks n (length t.offsets) (length t.columns) ++ decompose_checks f n t s) ≡ first_of (decompose_checks f n t s)
  same_first =
      size_twice (too_large (length t.offsets) (length t.columns)) (outside_of 1 3 n)
      ((2 when wrong_factor n (rows_of t.offsets) (length t.columns) (length t.splits) (length s.diagonal) (length s.values))
      ∷ (3 when not (valid_pattern t.offsets t.columns)) ∷ (11 when not (valid_splits t.offsets t.columns t.splits))
      ∷ (9 when has_stopped (decompose f n t s).stopped) ∷ []) inside

  pub at_dim : (answer : Answer) (left : FactorValues) → Decomposes f n t s answer left
      → Factored {A = FactorValues} f (dim_checks n (length t.offsets) (length t.columns)) n t s (number_of answer) (row_of answer) (decompose f n t s).left s left
  at_dim answer left end =
      record {
        first = end.number ∙ sym same_first;
        row_is = ap (λ (rows : List ℕ). get_or rows 0 0) end.row ∙ first_of_lem (eqb (number_of answer) 9) (stopped_rows (decompose f n t s).stopped);
        lent = end.lent;
      }

  -- so that where N is known to be in range it need not be told
  pub untold : {A : Type 0} (number row : ℕ) (new old left : A) → Factored f (dim_checks n (length t.offsets) (length t.columns)) n t s number row new old left
      → Factored f [] n t s number row new old left
  untold number row new old left end = record { first = end.first ∙ same_first; row_is = end.row_is; lent = end.lent }

-- ---- at no N

refused_first : (large outside : Bool) (later : List Check) (k : ℕ) → k ≡ cond large 1 2 → outside ≡ true → k ≡ first_of ((1 when large) ∷ (2 when outside) ∷ later)
refused_first true outside later k is out = is
refused_first false outside later k is out = rw out is

small_number : (large : Bool) (k j : ℕ) → k ≡ cond large 1 2 → k ≡ j → (j ≡ 1 → ⊥) → (j ≡ 2 → ⊥) → ⊥
small_number true k j is e one two = one (sym e ∙ is)
small_number false k j is e one two = two (sym e ∙ is)

pub factored_at_no_dim : {A : Type 0} (f : Format) (n : ℕ) → (n ≡ 1 → ⊥) → (n ≡ 2 → ⊥) → (n ≡ 3 → ⊥) → (t : FactorPattern) (s : FactorValues) (why : Refusal) (new old : A)
    → refusal_number why ≡ cond (too_large (length t.offsets) (length t.columns)) 1 2
    → Factored f (dim_checks n (length t.offsets) (length t.columns)) n t s (refusal_number why) (refusal_row why) new old old
factored_at_no_dim f n one two three t s why new old is =
    let large = too_large (length t.offsets) (length t.columns) in
    factored_refused f (dim_checks n (length t.offsets) (length t.columns)) n t s (refusal_number why) (refusal_row why) new old
    (refused_first large (outside_of 1 3 n) (decompose_checks f n t s) (refusal_number why) is (other_dim n one two three))
    (λ e. small_number large (refusal_number why) 0 is e (λ z. absurd (omega (arith, z))) (λ z. absurd (omega (arith, z))))
    (λ e. small_number large (refusal_number why) 9 is e (λ z. absurd (omega (arith, z))) (λ z. absurd (omega (arith, z)))) (unrowed large why is)

-- ---- the promise fixes the number, the row and all that is lent

pub same_factored : {A : Type 0} (f : Format) (earlier : List Check) (n : ℕ) (t : FactorPattern) (s : FactorValues) (k j row row' : ℕ) (new old left left' : A)
    → Factored f earlier n t s k row new old left → Factored f earlier n t s j row' new old left' → (k ≡ j) × (row ≡ row') × (left ≡ left')
same_factored f earlier n t s k j row row' new old left left' p q =
    let e : k ≡ j = p.first ∙ sym q.first in (
      e,
      p.row_is ∙ ap (λ (x : ℕ). cond (eqb x 9) (get_or (stopped_rows (decompose f n t s).stopped) 0 0) 0) e ∙ sym q.row_is,
      p.lent ∙ ap (λ (x : ℕ). cond (eqb x 0 || eqb x 9) new old) e ∙ sym q.lent,
    )
