-- The ends of the decomposition on bytes: its lengths refuse it, or its words decide. And what the run left of the decoded words is what it leaves of the bytes.
-- Assumes nothing.
use mathlib.Core.Path.{◌≡◌, refl, sym, ap, ◌∙◌}
use mathlib.Core.List.{List, [], ◌∷◌, ◌++◌}
use mathlib.Core.Bool.{Bool, true, false, not, cond, ◌||◌}
use Prim.Native.Nat.{ℕ, ◌/◌}
use native.Mathlib.Omega.{arith}
use lib.Dec.{eqb}
use lib.ListN.{length}
use lib.Ieee.{Float, Format, binary64}
use Rattle.answers.specs.Numbers.{Answer}
use Rattle.answers.specs.Numbers.{number_of, row_of}
use Rattle.answers.specs.Checks.{◌when◌, first_of}
use Rattle.answers.specs.Limits.{outside_of}
use Rattle.answers.proofs.EndLaws.{none_of_zero, unnamed_number, refused_earlier}
use Rattle.patterns.specs.Pattern.{valid_pattern, valid_splits}
use Rattle.matrix.proofs.PatternEnds.{pair_of}
use Rattle.factors.specs.Factor.{FactorValues, decompose}
use Rattle.reducing.specs.Lent.{pattern_of, factor_of}
use Rattle.decompose.specs.Promise.{has_stopped}
use Rattle.numbered.specs.Checks.{dim_checks}
use Rattle.numbered_factors.specs.Calls.{Factored}
use Rattle.numbered_factors.proofs.FactoredLaws.{factored_refused, factored_later, untold}
use Rattle.wire.specs.Bytes.{values_in, bytes_of}
use Rattle.wire.specs.Words.{indexes_in}
use Rattle.wire.proofs.ByteLaws.{length_values}
use Rattle.wire.proofs.WordLaws.{length_indexes}
use Rattle.outcomes.proofs.OutcomeLaws.{no_row}
use Rattle.pattern_bytes.specs.Checks.{byte_checks}
use Rattle.matrix_bytes.proofs.EndedLaws.{none_left}
use Rattle.factor_bytes.specs.Checks.{factor_lengths}
use Rattle.factor_bytes.specs.Rooms.{Decoded}
use Rattle.decompose_bytes.specs.Left.{factor_bytes, left_over}

-- ---- the ends of the call: nothing else than the factor is lent, so that no other bytes are torn

untorn : (wrong : Bool) → (wrong || false) ≡ wrong
untorn true = refl
untorn false = refl

module _ {A : Type 0} (wrong : Bool) (dim : ℕ) (o cs s d v : List ℕ) (answer : Answer) (new old left : A) where
  pub lengths_refuse : (number_of answer ≡ 0 → ⊥)
      → number_of answer ≡ first_of (byte_checks (length o) (length cs) (wrong || false) ++ factor_lengths dim (length o / 4) (length cs / 4) (length s / 4) (length d / 8) (length v / 8))
      → Factored binary64 (byte_checks (length o) (length cs) wrong) dim (pattern_of (indexes_in o) (indexes_in cs) (indexes_in s)) (factor_of (values_in binary64 d) (values_in binary64 v)) (number_of answer) (row_of answer) new old old
  lengths_refuse other first =
      let t = pattern_of (indexes_in o) (indexes_in cs) (indexes_in s) in
      let x = factor_of (values_in binary64 d) (values_in binary64 v) in
      let earlier =
      byte_checks (length o) (length cs) wrong
      ++ factor_lengths dim (length (indexes_in o)) (length (indexes_in cs)) (length (indexes_in s)) (length (values_in binary64 d)) (length (values_in binary64 v)) in
      let first' : number_of answer ≡ first_of earlier =
      rw (length_indexes o, length_indexes cs, length_indexes s, length_values binary64 d, length_values binary64 v) (rw (untorn wrong) at first) in
      let some : number_of answer ≡ 0 → ⊥ = other in
      let not_nine : number_of answer ≡ 9 → ⊥ = λ nine. unnamed_number earlier 9 (λ e. absurd (omega (arith, e))) refl (sym first' ∙ nine) in
      factored_refused binary64 (byte_checks (length o) (length cs) wrong) dim t x (number_of answer) (row_of answer) new old
      (first' ∙ sym (refused_earlier earlier
      ((3 when not (valid_pattern (indexes_in o) (indexes_in cs))) ∷ (11 when not (valid_splits (indexes_in o) (indexes_in cs) (indexes_in s)))
      ∷ (9 when has_stopped (decompose binary64 dim t x).stopped) ∷ []) (λ z. some (first' ∙ z)))) some not_nine (no_row answer not_nine)

  pub words_decide : first_of (byte_checks (length o) (length cs) (wrong || false) ++ factor_lengths dim (length o / 4) (length cs / 4) (length s / 4) (length d / 8) (length v / 8)) ≡ 0
      → Factored binary64 [] dim (pattern_of (indexes_in o) (indexes_in cs) (indexes_in s)) (factor_of (values_in binary64 d) (values_in binary64 v)) (number_of answer) (row_of answer) new old left
      → Factored binary64 (byte_checks (length o) (length cs) wrong) dim (pattern_of (indexes_in o) (indexes_in cs) (indexes_in s)) (factor_of (values_in binary64 d) (values_in binary64 v)) (number_of answer) (row_of answer) new old left
  words_decide zero_is end =
      let lengths = factor_lengths dim (length o / 4) (length cs / 4) (length s / 4) (length d / 8) (length v / 8) in
      let bytes = byte_checks (length o) (length cs) wrong in
      factored_later binary64 bytes dim (pattern_of (indexes_in o) (indexes_in cs) (indexes_in s)) (factor_of (values_in binary64 d) (values_in binary64 v)) (number_of answer) (row_of answer) new old left
      (none_left bytes lengths (none_of_zero (bytes ++ lengths) refl (rw (untorn wrong) at zero_is))) end

-- ---- what the run left

settled : (f : Format) (run : Bool) (d v out out' : List ℕ) (ld lv : List Float) (new old : FactorValues) → factor_of ld lv ≡ cond run new old
    → out ≡ cond run (bytes_of f ld) d → out' ≡ cond run (bytes_of f lv) v → ◌≡◌ {A = List ℕ × List ℕ} (out, out') (cond run (factor_bytes f new) (d, v))
settled f true d v out out' ld lv new old is put put' =
    pair_of (put ∙ ap (λ (s : FactorValues). bytes_of f s.diagonal) is) (put' ∙ ap (λ (s : FactorValues). bytes_of f s.values) is)
settled f false d v out out' ld lv new old is put put' = pair_of put put'

pub decomposed : (dim : ℕ) (o c s d v : List ℕ) (offs cols cuts : List ℕ) (diag vals ld lv : List Float) (answer : Answer) (out out' : List ℕ)
    → outside_of 1 3 dim ≡ false → Decoded binary64 offs cols cuts diag vals o c s d v
    → Factored {A = FactorValues} binary64 (dim_checks dim (length offs) (length cols)) dim (pattern_of offs cols cuts) (factor_of diag vals) (number_of answer) (row_of answer)
    (decompose binary64 dim (pattern_of offs cols cuts) (factor_of diag vals)).left (factor_of diag vals) (factor_of ld lv)
    → out ≡ left_over binary64 (number_of answer) ld d → out' ≡ left_over binary64 (number_of answer) lv v
    → Factored {A = List ℕ × List ℕ} binary64 [] dim (pattern_of (indexes_in o) (indexes_in c) (indexes_in s)) (factor_of (values_in binary64 d) (values_in binary64 v)) (number_of answer) (row_of answer)
    (factor_bytes binary64 (decompose binary64 dim (pattern_of (indexes_in o) (indexes_in c) (indexes_in s)) (factor_of (values_in binary64 d) (values_in binary64 v))).left) (d, v) (out, out')
decomposed dim o c s d v offs cols cuts diag vals ld lv answer out out' inside read end put put' =
    let told = rw (read.offsets_are, read.columns_are, read.splits_are, read.diagonal_is, read.values_are) at (untold binary64 dim (pattern_of offs cols cuts) (factor_of diag vals) inside (number_of answer) (row_of answer) _ _ _ end) in
    record {
      first = told.first;
      row_is = told.row_is;
      lent = settled binary64 (eqb (number_of answer) 0 || eqb (number_of answer) 9) d v out out' ld lv _ _ told.lent put put';
    }
