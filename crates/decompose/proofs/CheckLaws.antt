-- The ends of a checked call: refused before a word is written, stopped at a row, or done.
-- Assumes nothing.
use mathlib.Core.Path.{◌≡◌, refl, sym, ap, ◌∙◌}
use mathlib.Core.List.{List, [], ◌∷◌}
use mathlib.Core.Bool.{Bool, true, false, not}
use mathlib.Core.Option.{none, some}
use Prim.Native.Nat.{ℕ, ◌≤◌, ◌<◌}
use native.Mathlib.Omega.{arith}
use lib.ListN.{length}
use lib.Ieee.{Format}
use borrow.Author.Tests.{ne_eqb, lt-ltb, le-ltb}
use Rattle.std.specs.Prelude.{Ok, Err}
use Rattle.answers.specs.Numbers.{Answer}
use Rattle.answers.specs.declared.Refusal.TheVariants.{Size, Shape, Pattern, Split, Singular}
use Rattle.answers.specs.Numbers.{number_of, values_of}
use Rattle.answers.specs.Checks.{Check, ◌when◌, first_of}
use Rattle.answers.proofs.SameAnswer.{same_number}
use Rattle.answers.proofs.EndLaws.{none_of_zero, unnamed_number, refused_earlier, left_to_later}
use Rattle.lent.specs.Steps.{Dim}
use Rattle.patterns.specs.Pattern.{rows_of, valid_pattern, valid_splits}
use Rattle.patterns.specs.Checks.{too_large}
use Rattle.factors.specs.Factor.{FactorPattern, FactorValues, Decomposed, decompose}
use Rattle.factor_check.specs.Checks.{wrong_factor, row_checks}
use Rattle.factor_check.specs.Fits.{FactorFits}
use Rattle.factor_check.proofs.CheckLaws.{rows_pass, factor_fits}
use Rattle.decompose.specs.Promise.{has_stopped, earlier_checks, decompose_checks, Decomposes}
use Rattle.decompose.specs.Steps.{stopped_at}

-- 1 under large, then 2 under wrong: if the number is 0, neither holds and the later checks answer 0
neither : (large wrong : Bool) (later : List Check) → first_of ((1 when large) ∷ (2 when wrong) ∷ later) ≡ 0 → (large ≡ false) × (wrong ≡ false) × (first_of later ≡ 0)
neither true wrong later zero_is = absurd (omega (arith, zero_is))
neither false true later zero_is = absurd (omega (arith, zero_is))
neither false false later zero_is = (refl, refl, zero_is)

pub checked_fits : (n : ℕ) (o cs ss : List ℕ) (diagonal values : ℕ) → Dim n → first_of (earlier_checks n o cs ss diagonal values) ≡ 0 → FactorFits n o cs ss diagonal values
checked_fits n o cs ss diagonal values dim zero_is =
    let passed = neither (too_large (length o) (length cs)) (wrong_factor n (rows_of o) (length cs) (length ss) diagonal values) (row_checks o cs ss) zero_is in
    let rules = rows_pass (valid_pattern o cs) (valid_splits o cs ss) passed.2 in
    factor_fits n dim o cs ss diagonal values passed.0 passed.1 rules.0 rules.1

-- an answer with one of these numbers carries no value
no_values : (large wrong valid right : Bool) (answer : Answer)
    → number_of answer ≡ first_of ((1 when large) ∷ (2 when wrong) ∷ (3 when not valid) ∷ (11 when not right) ∷ []) → values_of answer ≡ []
no_values true wrong valid right answer is = ap values_of (same_number answer (Err Size) is (λ nine. omega (arith, is, nine)))
no_values false true valid right answer is = ap values_of (same_number answer (Err Shape) is (λ nine. omega (arith, is, nine)))
no_values false false false right answer is = ap values_of (same_number answer (Err Pattern) is (λ nine. omega (arith, is, nine)))
no_values false false true false answer is = ap values_of (same_number answer (Err Split) is (λ nine. omega (arith, is, nine)))
no_values false false true true answer is = ap values_of (same_number answer (Ok tt) is (λ nine. omega (arith, is, nine)))

module _ (f : Format) (n : ℕ) (t : FactorPattern) (old : FactorValues) where
  abbrev checks : List Check
  checks = earlier_checks n t.offsets t.columns t.splits (length old.diagonal) (length old.values)

  pub refused_before : (answer : Answer)
      → number_of answer ≡ first_of (earlier_checks n t.offsets t.columns t.splits (length old.diagonal) (length old.values))
      → (number_of answer ≡ 0 → ⊥) → Decomposes f n t old answer old
  refused_before answer first other =
      let some_holds : number_of answer ≡ 0 → ⊥ = other in
      let not_nine : number_of answer ≡ 9 → ⊥ = λ nine. unnamed_number checks 9 (λ z. omega (arith, z)) refl (sym first ∙ nine) in
      record {
        number = first ∙ sym (refused_earlier checks ((9 when has_stopped (decompose f n t old).stopped) ∷ []) (λ z. some_holds (first ∙ z)));
        row =
            rw (ne_eqb (number_of answer) 9 not_nine)
            (no_values (too_large (length t.offsets) (length t.columns))
            (wrong_factor n (rows_of t.offsets) (length t.columns) (length t.splits) (length old.diagonal) (length old.values))
            (valid_pattern t.offsets t.columns) (valid_splits t.offsets t.columns t.splits) answer first);
        lent = rw (ne_eqb (number_of answer) 0 some_holds, ne_eqb (number_of answer) 9 not_nine);
      }

  module _ (zero_is : first_of (earlier_checks n t.offsets t.columns t.splits (length old.diagonal) (length old.values)) ≡ 0)
      (left : FactorValues) (row : ℕ) (run : ◌≡◌ {A = Decomposed} (record { left = left; stopped = stopped_at (rows_of t.offsets) row }) (decompose f n t old)) where
    -- the last check alone decides
    last : first_of (decompose_checks f n t old) ≡ first_of ((9 when has_stopped (decompose f n t old).stopped) ∷ [])
    last = left_to_later checks ((9 when has_stopped (decompose f n t old).stopped) ∷ []) (none_of_zero checks refl zero_is)

    pub stopped_at_row : row < rows_of t.offsets → Decomposes f n t old (Err (Singular row)) left
    unfolding stopped_at
    stopped_at_row below =
        let is : (decompose f n t old).stopped ≡ some row = sym (ap (λ (d : Decomposed). d.stopped) run) ∙ rw (lt-ltb row (rows_of t.offsets) below) in
        record { number = sym (last ∙ rw is); row = rw is; lent = ap (λ (d : Decomposed). d.left) run }

    pub done_at_end : rows_of t.offsets ≤ row → Decomposes f n t old (Ok tt) left
    unfolding stopped_at
    done_at_end past =
        let is : (decompose f n t old).stopped ≡ none = sym (ap (λ (d : Decomposed). d.stopped) run) ∙ rw (le-ltb row (rows_of t.offsets) past) in
        record { number = sym (last ∙ rw is); row = refl; lent = ap (λ (d : Decomposed). d.left) run }
