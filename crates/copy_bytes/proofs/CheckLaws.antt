-- The checks of the copy by the lengths of its bytes: each way out of them, what the rooms hold when none refuses, and the ends of the call.
-- Assumes nothing.
use mathlib.Core.Path.{◌≡◌, refl, ◌∙◌}
use mathlib.Core.List.{List, [], ◌∷◌, ◌++◌}
use mathlib.Core.Bool.{Bool, true, false, not, ◌||◌}
use Prim.Native.Nat.{ℕ, ◌-◌, ◌/◌, ◌≤◌}
use native.Mathlib.Omega.{arith}
use lib.Dec.{eqb}
use lib.ListN.{length}
use borrow.Author.Tests.{eq-eqb, ne_eqb}
use Rattle.answers.specs.Numbers.{Answer}
use Rattle.answers.specs.Numbers.{number_of}
use Rattle.answers.specs.Checks.{◌when◌, first_of}
use Rattle.answers.specs.Promise.{Ends}
use Rattle.answers.proofs.EndLaws.{none_of_zero, ends_earlier, ends_later}
use Rattle.patterns.specs.Checks.{too_large}
use Rattle.matrix.specs.Checks.{wrong_values, matrix_lengths}
use Rattle.factor_check.specs.Checks.{wrong_factor}
use Rattle.copying.specs.Checks.{copy_lengths, copy_rules, copy_checks}
use Rattle.wire.specs.Words.{indexes_in}
use Rattle.wire.proofs.WordLaws.{length_indexes}
use Rattle.pattern_bytes.specs.Checks.{byte_checks}
use Rattle.matrix_bytes.specs.Checks.{misshapen}
use Rattle.matrix_bytes.specs.Rooms.{HeldMatrix, is_many}
use Rattle.matrix_bytes.proofs.CheckLaws.{matrix_in_full, matrix_in_small}
use Rattle.matrix_bytes.proofs.EndedLaws.{none_left}
use Rattle.factor_bytes.specs.Checks.{misshapen_factor, factor_lengths}
use Rattle.factor_bytes.specs.Rooms.{HeldFactor}
use Rattle.factor_bytes.proofs.CheckLaws.{some_offsets, has_offsets, factor_in_full, factor_in_small}
use Rattle.copy_bytes.specs.Checks.{misshapen_copy, copy_byte_checks}

-- ---- the ways out: a and f are the sizes of A and of the factor, m and k their bytes, w and l their lengths, r whether they differ in rows

abbrev number_of_a : Bool → Bool → Bool → ℕ
number_of_a a m w = first_of ((1 when a) ∷ (2 when m) ∷ (1 when a) ∷ (2 when w) ∷ [])

abbrev number_of_factor : Bool → Bool → Bool → ℕ
number_of_factor f k l = first_of ((1 when f) ∷ (2 when (k || false)) ∷ (1 when f) ∷ (2 when l) ∷ [])

abbrev number_of_both : Bool → Bool → Bool → Bool → Bool → Bool → Bool → ℕ
number_of_both a f m k w l r = first_of ((1 when (a || f)) ∷ (2 when (m || k)) ∷ (1 when (a || f)) ∷ (2 when (r || (w || l))) ∷ [])

factor_large : (a m k w l r : Bool) → number_of_both a true m k w l r ≡ 1
factor_large true m k w l r = refl
factor_large false m k w l r = refl

a_first : (a m k w l r : Bool) → (number_of_a a m w ≡ 0 → ⊥) → number_of_a a m w ≡ number_of_both a false m k w l r
a_first true m k w l r other = refl
a_first false true k w l r other = refl
a_first false false true true l r other = refl
a_first false false false true l true other = refl
a_first false false false true l false other = refl
a_first false false k false l r other = absurd (other refl)

then_factor : (a f m k w l r : Bool) → number_of_a a m w ≡ 0 → (number_of_factor f k l ≡ 0 → ⊥) → number_of_factor f k l ≡ number_of_both a f m k w l r
then_factor true f m k w l r zero_is other = absurd (omega (arith, zero_is))
then_factor false f true k w l r zero_is other = absurd (omega (arith, zero_is))
then_factor false f false k true l r zero_is other = absurd (omega (arith, zero_is))
then_factor false true false k false l r zero_is other = refl
then_factor false false false true false l r zero_is other = refl
then_factor false false false false false true true zero_is other = refl
then_factor false false false false false true false zero_is other = refl
then_factor false false false false false false r zero_is other = absurd (other refl)

then_rows : (a f m k w l r : Bool) → number_of_a a m w ≡ 0 → number_of_factor f k l ≡ 0 → number_of_both a f m k w l r ≡ first_of ((2 when r) ∷ [])
then_rows true f m k w l r zero_is none = absurd (omega (arith, zero_is))
then_rows false f true k w l r zero_is none = absurd (omega (arith, zero_is))
then_rows false f false k true l r zero_is none = absurd (omega (arith, zero_is))
then_rows false true false k false l r zero_is none = absurd (omega (arith, none))
then_rows false false false true false l r zero_is none = absurd (omega (arith, none))
then_rows false false false false false true r zero_is none = absurd (omega (arith, none))
then_rows false false false false false false true zero_is none = refl
then_rows false false false false false false false zero_is none = refl

none_refuses : (a f m k w l r : Bool) → number_of_both a f m k w l r ≡ 0 → (number_of_a a m w ≡ 0) × (number_of_factor f k l ≡ 0)
none_refuses true f m k w l r zero_is = absurd (omega (arith, zero_is))
none_refuses false true m k w l r zero_is = absurd (omega (arith, zero_is))
none_refuses false false true k w l r zero_is = absurd (omega (arith, zero_is))
none_refuses false false false true w l r zero_is = absurd (omega (arith, zero_is))
none_refuses false false false false w l true zero_is = absurd (omega (arith, zero_is))
none_refuses false false false false true l false zero_is = absurd (omega (arith, zero_is))
none_refuses false false false false false true false zero_is = absurd (omega (arith, zero_is))
none_refuses false false false false false false false zero_is = (refl, refl)

-- ---- the same of the lengths of bytes

module _ (dim st en ad av o cs s d v : ℕ) where
  pub size_refuses : too_large (o / 4) (cs / 4) ≡ true
      → first_of (copy_byte_checks st en o cs (misshapen_copy dim st en ad av o cs s d v) ++ copy_lengths dim (st / 4) (en / 4) (ad / 8) (av / 8) (o / 4) (cs / 4) (s / 4) (d / 8) (v / 8)) ≡ 1
  size_refuses large =
      rw large
      (factor_large (too_large (st / 4) (en / 4)) (misshapen dim st en av ad) (misshapen_factor dim o cs s d v) (wrong_values dim (st / 4 - 1) (en / 4) (av / 8) (ad / 8))
      (wrong_factor dim (o / 4 - 1) (cs / 4) (s / 4) (d / 8) (v / 8)) (not (eqb (o / 4 - 1) (st / 4 - 1))))

  pub a_refuses : too_large (o / 4) (cs / 4) ≡ false
      → (first_of (byte_checks st en (misshapen dim st en av ad) ++ matrix_lengths dim (st / 4) (en / 4) (av / 8) (ad / 8)) ≡ 0 → ⊥)
      → first_of (byte_checks st en (misshapen dim st en av ad) ++ matrix_lengths dim (st / 4) (en / 4) (av / 8) (ad / 8))
      ≡ first_of (copy_byte_checks st en o cs (misshapen_copy dim st en ad av o cs s d v) ++ copy_lengths dim (st / 4) (en / 4) (ad / 8) (av / 8) (o / 4) (cs / 4) (s / 4) (d / 8) (v / 8))
  a_refuses small other =
      rw small
      (a_first (too_large (st / 4) (en / 4)) (misshapen dim st en av ad) (misshapen_factor dim o cs s d v) (wrong_values dim (st / 4 - 1) (en / 4) (av / 8) (ad / 8))
      (wrong_factor dim (o / 4 - 1) (cs / 4) (s / 4) (d / 8) (v / 8)) (not (eqb (o / 4 - 1) (st / 4 - 1))) other)

  module _ (of_a : first_of (byte_checks st en (misshapen dim st en av ad) ++ matrix_lengths dim (st / 4) (en / 4) (av / 8) (ad / 8)) ≡ 0) where
    pub factor_refuses : (first_of (byte_checks o cs (misshapen_factor dim o cs s d v || false) ++ factor_lengths dim (o / 4) (cs / 4) (s / 4) (d / 8) (v / 8)) ≡ 0 → ⊥)
        → first_of (byte_checks o cs (misshapen_factor dim o cs s d v || false) ++ factor_lengths dim (o / 4) (cs / 4) (s / 4) (d / 8) (v / 8))
        ≡ first_of (copy_byte_checks st en o cs (misshapen_copy dim st en ad av o cs s d v) ++ copy_lengths dim (st / 4) (en / 4) (ad / 8) (av / 8) (o / 4) (cs / 4) (s / 4) (d / 8) (v / 8))
    factor_refuses =
        then_factor (too_large (st / 4) (en / 4)) (too_large (o / 4) (cs / 4)) (misshapen dim st en av ad) (misshapen_factor dim o cs s d v) (wrong_values dim (st / 4 - 1) (en / 4) (av / 8) (ad / 8))
        (wrong_factor dim (o / 4 - 1) (cs / 4) (s / 4) (d / 8) (v / 8)) (not (eqb (o / 4 - 1) (st / 4 - 1))) of_a

    module _ (of_factor : first_of (byte_checks o cs (misshapen_factor dim o cs s d v || false) ++ factor_lengths dim (o / 4) (cs / 4) (s / 4) (d / 8) (v / 8)) ≡ 0) where
      rows_decide : first_of (copy_byte_checks st en o cs (misshapen_copy dim st en ad av o cs s d v) ++ copy_lengths dim (st / 4) (en / 4) (ad / 8) (av / 8) (o / 4) (cs / 4) (s / 4) (d / 8) (v / 8))
          ≡ first_of ((2 when not (eqb (o / 4 - 1) (st / 4 - 1))) ∷ [])
      rows_decide =
          then_rows (too_large (st / 4) (en / 4)) (too_large (o / 4) (cs / 4)) (misshapen dim st en av ad) (misshapen_factor dim o cs s d v) (wrong_values dim (st / 4 - 1) (en / 4) (av / 8) (ad / 8))
          (wrong_factor dim (o / 4 - 1) (cs / 4) (s / 4) (d / 8) (v / 8)) (not (eqb (o / 4 - 1) (st / 4 - 1))) of_a of_factor

      pub rows_differ : (o / 4 ≡ st / 4 → ⊥)
          → first_of (copy_byte_checks st en o cs (misshapen_copy dim st en ad av o cs s d v) ++ copy_lengths dim (st / 4) (en / 4) (ad / 8) (av / 8) (o / 4) (cs / 4) (s / 4) (d / 8) (v / 8)) ≡ 2
      rows_differ other =
          let some : 1 ≤ st / 4 = some_offsets dim st en 0 ad av false of_a in
          let any : 1 ≤ o / 4 = has_offsets dim o cs s d v false of_factor in
          rows_decide ∙ rw (ne_eqb (o / 4 - 1) (st / 4 - 1) (λ e. other (omega (arith, e, some, any))))

      pub rows_same : o / 4 ≡ st / 4
          → first_of (copy_byte_checks st en o cs (misshapen_copy dim st en ad av o cs s d v) ++ copy_lengths dim (st / 4) (en / 4) (ad / 8) (av / 8) (o / 4) (cs / 4) (s / 4) (d / 8) (v / 8)) ≡ 0
      rows_same same = rows_decide ∙ rw (eq-eqb (o / 4 - 1) (st / 4 - 1) (omega (arith, same)))

  -- so the rooms hold all that the call is lent
  module _ (zero_is : first_of (copy_byte_checks st en o cs (misshapen_copy dim st en ad av o cs s d v) ++ copy_lengths dim (st / 4) (en / 4) (ad / 8) (av / 8) (o / 4) (cs / 4) (s / 4) (d / 8) (v / 8)) ≡ 0) where
    passed : (first_of (byte_checks st en (misshapen dim st en av ad) ++ matrix_lengths dim (st / 4) (en / 4) (av / 8) (ad / 8)) ≡ 0)
        × (first_of (byte_checks o cs (misshapen_factor dim o cs s d v || false) ++ factor_lengths dim (o / 4) (cs / 4) (s / 4) (d / 8) (v / 8)) ≡ 0)
    passed =
        none_refuses (too_large (st / 4) (en / 4)) (too_large (o / 4) (cs / 4)) (misshapen dim st en av ad) (misshapen_factor dim o cs s d v) (wrong_values dim (st / 4 - 1) (en / 4) (av / 8) (ad / 8))
        (wrong_factor dim (o / 4 - 1) (cs / 4) (s / 4) (d / 8) (v / 8)) (not (eqb (o / 4 - 1) (st / 4 - 1))) zero_is

    pub copy_in_full : (HeldMatrix 4096 65535 dim st en av ad) × (HeldFactor 4096 65535 dim o cs s d v)
    copy_in_full = ((matrix_in_full dim st en av ad passed.0).0, factor_in_full dim o cs s d v false passed.1)

    pub copy_in_small : is_many st en ≡ false → is_many o cs ≡ false → (HeldMatrix 16 64 dim st en av ad) × (HeldFactor 16 64 dim o cs s d v)
    copy_in_small few less = ((matrix_in_small dim st en av ad passed.0 few).0, factor_in_small dim o cs s d v false passed.1 less)

-- ---- the ends of the call: its lengths refuse it, or its words decide

module _ {A : Type 0} (wrong : Bool) (dim : ℕ) (st en : List ℕ) (ad av : ℕ) (o cs s : List ℕ) (d v : ℕ) (answer : Answer) (new old left : A) where
  pub copy_refuses : (number_of answer ≡ 0 → ⊥)
      → number_of answer
      ≡ first_of (copy_byte_checks (length st) (length en) (length o) (length cs) wrong ++ copy_lengths dim (length st / 4) (length en / 4) ad av (length o / 4) (length cs / 4) (length s / 4) d v)
      → Ends (copy_byte_checks (length st) (length en) (length o) (length cs) wrong ++ copy_checks dim (indexes_in st) (indexes_in en) ad av (indexes_in o) (indexes_in cs) (indexes_in s) d v) answer new old old
  copy_refuses other first =
      ends_earlier (copy_byte_checks (length st) (length en) (length o) (length cs) wrong ++ copy_lengths dim (length (indexes_in st)) (length (indexes_in en)) ad av (length (indexes_in o)) (length (indexes_in cs)) (length (indexes_in s)) d v)
      (copy_rules (indexes_in st) (indexes_in en) (indexes_in o) (indexes_in cs) (indexes_in s)) answer new old
      (rw (length_indexes st, length_indexes en, length_indexes o, length_indexes cs, length_indexes s) first) other

  pub copy_decides : first_of (copy_byte_checks (length st) (length en) (length o) (length cs) wrong ++ copy_lengths dim (length st / 4) (length en / 4) ad av (length o / 4) (length cs / 4) (length s / 4) d v) ≡ 0
      → Ends (copy_checks dim (indexes_in st) (indexes_in en) ad av (indexes_in o) (indexes_in cs) (indexes_in s) d v) answer new old left
      → Ends (copy_byte_checks (length st) (length en) (length o) (length cs) wrong ++ copy_checks dim (indexes_in st) (indexes_in en) ad av (indexes_in o) (indexes_in cs) (indexes_in s) d v) answer new old left
  copy_decides zero_is end =
      let lengths = copy_lengths dim (length st / 4) (length en / 4) ad av (length o / 4) (length cs / 4) (length s / 4) d v in
      let bytes = copy_byte_checks (length st) (length en) (length o) (length cs) wrong in
      ends_later bytes (copy_checks dim (indexes_in st) (indexes_in en) ad av (indexes_in o) (indexes_in cs) (indexes_in s) d v) answer new old left
      (none_left bytes lengths (none_of_zero (bytes ++ lengths) refl zero_is)) end
