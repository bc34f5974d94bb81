-- What the checks on bytes mean: the ways on which a call is found misshapen, and what is known of one that is not refused.
-- Assumes nothing.
use mathlib.Core.Path.{◌≡◌, refl, sym, ap, ◌∙◌}
use mathlib.Core.List.{List, [], ◌∷◌}
use mathlib.Core.Bool.{Bool, true, false, not, ◌||◌}
use Prim.Native.Nat.{ℕ, ◌*◌, ◌%◌, ◌≤◌, ◌<◌}
use lib.Dec.{eqb, ltb}
use lib.Ieee.{binary64}
use borrow.Author.Tests.{lt-ltb, le-ltb, eq-eqb, ne_eqb, ltb-false, eqb-true, not-false}
use Rattle.base.proofs.All.{or_left, or_right}
use Rattle.answers.specs.Checks.{Check, ◌when◌, first_of, none_holds, order, in_order}
use Rattle.answers.specs.Limits.{rows_out_of_range, outside_of}
use Rattle.answers.specs.Promise.{names}
use Rattle.vector_bytes.specs.Checks.{Lent, words, long_words, wrong_words, call_checks}
use Rattle.vector_bytes.specs.Operations.{lent_of}
use Rattle.vector_bytes.specs.declared.Second.{Second}
use Rattle.vector_bytes.specs.declared.Second.TheVariants.{Nothing, Values, Flags, LongFlags}

-- The checks come in the table's order, and have neither 0 nor 9: so the number tells whether a call was refused, and fixes its answer.
pub call_in_order : (n dim : ℕ) (lent : List Lent) → in_order order (call_checks n dim lent) ≡ true
call_in_order n dim lent = refl

pub call_names : (n dim : ℕ) (lent : List Lent) → (names 0 (call_checks n dim lent) ≡ false) × (names 9 (call_checks n dim lent) ≡ false)
call_names n dim lent = (refl, refl)

-- ---- what is known where none holds

-- 1 under r, then 2 under a
abbrev one_two : Bool → Bool → List Check
one_two r a = (1 when r) ∷ (2 when a) ∷ []

neither : (r a : Bool) → none_holds (one_two r a) ≡ true → (r ≡ false) × (a ≡ false)
neither true a none = (sym none, absurd_of none)
  where
    absurd_of : false ≡ true → a ≡ false
    absurd_of e = cc
neither false true none = (refl, sym none)
neither false false none = (refl, refl)

both_passed : (r a : Bool) → r ≡ false → a ≡ false → none_holds (one_two r a) ≡ true
both_passed r a p q = rw (p, q)

-- rows and N in range, and the lengths right
pub known : (n dim : ℕ) (lent : List Lent) → none_holds (call_checks n dim lent) ≡ true
    → (rows_out_of_range n ≡ false) × (outside_of 1 3 dim ≡ false) × (wrong_words (dim * n) lent ≡ false)
known n dim lent none =
    let both = neither (rows_out_of_range n) (outside_of 1 3 dim || wrong_words (dim * n) lent) none in
    (both.0, or_left (outside_of 1 3 dim) (wrong_words (dim * n) lent) both.1, or_right (outside_of 1 3 dim) (wrong_words (dim * n) lent) both.1)

pub none_wrong : (n dim : ℕ) (lent : List Lent) → rows_out_of_range n ≡ false → outside_of 1 3 dim ≡ false → wrong_words (dim * n) lent ≡ false
    → none_holds (call_checks n dim lent) ≡ true
none_wrong n dim lent rows range right = both_passed (rows_out_of_range n) (outside_of 1 3 dim || wrong_words (dim * n) lent) rows (rw (range, right))

pub few_rows : (n : ℕ) → rows_out_of_range n ≡ false → n ≤ 4096
few_rows n rows = ltb-false 4096 n (or_right (ltb n 1) (ltb 4096 n) rows)

pub small_dim : (dim : ℕ) → outside_of 1 3 dim ≡ false → dim ≤ 3
small_dim dim range = ltb-false 3 dim (or_right (ltb dim 1) (ltb 3 dim) range)

-- the parts of slices that are right
module _ (count each parts : ℕ) (lent : List Lent) where
  pub right_words : wrong_words count (words each parts ∷ lent) ≡ false → (parts ≡ each * count) × (wrong_words count lent ≡ false)
  right_words right =
      let wrong = not (eqb parts (each * count)) in
      (eqb-true parts (each * count) (not-false _ (or_left wrong (wrong_words count lent) right)), or_right wrong (wrong_words count lent) right)

  pub right_long : wrong_words count (long_words each parts ∷ lent) ≡ false → each * count ≤ parts
  right_long right =
      let short = ltb parts (each * count) in
      let broken = not (eqb (parts % each) 0) in
      ltb-false parts (each * count) (or_left short broken (or_left (short || broken) (wrong_words count lent) right))

module _ (count p b : ℕ) where
  pub first_right : (second : Second) → wrong_words count (lent_of binary64 second p b) ≡ false → p ≡ 8 * count
  first_right Nothing right = (right_words count 8 p [] right).0
  first_right Values right = (right_words count 8 p (words 8 b ∷ []) right).0
  first_right Flags right = (right_words count 8 p (words 4 b ∷ []) right).0
  first_right LongFlags right = (right_words count 8 p (long_words 4 b ∷ []) right).0

  pub values_right : wrong_words count (lent_of binary64 Values p b) ≡ false → b ≡ 8 * count
  values_right right = (right_words count 8 b [] (right_words count 8 p (words 8 b ∷ []) right).1).0

  pub flags_right : wrong_words count (lent_of binary64 Flags p b) ≡ false → b ≡ 4 * count
  flags_right right = (right_words count 4 b [] (right_words count 8 p (words 4 b ∷ []) right).1).0

  pub long_flags_right : wrong_words count (lent_of binary64 LongFlags p b) ≡ false → 4 * count ≤ b
  long_flags_right right = right_long count 4 b [] (right_words count 8 p (long_words 4 b ∷ []) right).1

-- ---- the ways on which a call is found misshapen

or_none : (t : Bool) → t ≡ t || false
or_none true = refl
or_none false = refl

module _ (d n p b count : ℕ) (least : 1 ≤ d) (most : d ≤ 3) (is : count ≡ d * n) where
  pub wrong_first : (second : Second) → (p ≡ 8 * count → ⊥) → true ≡ outside_of 1 3 d || wrong_words (d * n) (lent_of binary64 second p b)
  wrong_first Nothing differ = rw (le-ltb d 1 least, le-ltb 3 d most, ne_eqb p (8 * (d * n)) (rw is at differ))
  wrong_first Values differ = rw (le-ltb d 1 least, le-ltb 3 d most, ne_eqb p (8 * (d * n)) (rw is at differ))
  wrong_first Flags differ = rw (le-ltb d 1 least, le-ltb 3 d most, ne_eqb p (8 * (d * n)) (rw is at differ))
  wrong_first LongFlags differ = rw (le-ltb d 1 least, le-ltb 3 d most, ne_eqb p (8 * (d * n)) (rw is at differ))

  module _ (same : p ≡ 8 * count) where
    pub nothing_wrong : false ≡ outside_of 1 3 d || wrong_words (d * n) (lent_of binary64 Nothing p b)
    nothing_wrong = rw (le-ltb d 1 least, le-ltb 3 d most, eq-eqb p (8 * (d * n)) (rw is at same))

    pub values_decide : not (eqb b (8 * count)) ≡ outside_of 1 3 d || wrong_words (d * n) (lent_of binary64 Values p b)
    values_decide =
        rw (le-ltb d 1 least, le-ltb 3 d most, eq-eqb p (8 * (d * n)) (rw is at same), is) (or_none (not (eqb b (8 * (d * n)))))

    pub flags_decide : not (eqb b (4 * count)) ≡ outside_of 1 3 d || wrong_words (d * n) (lent_of binary64 Flags p b)
    flags_decide =
        rw (le-ltb d 1 least, le-ltb 3 d most, eq-eqb p (8 * (d * n)) (rw is at same), is) (or_none (not (eqb b (4 * (d * n)))))

    pub too_short : b < 4 * count → true ≡ outside_of 1 3 d || wrong_words (d * n) (lent_of binary64 LongFlags p b)
    too_short short =
        rw (le-ltb d 1 least, le-ltb 3 d most, eq-eqb p (8 * (d * n)) (rw is at same), lt-ltb b (4 * (d * n)) (rw is at short))

    pub whole_decides : 4 * count ≤ b → not (eqb (b % 4) 0) ≡ outside_of 1 3 d || wrong_words (d * n) (lent_of binary64 LongFlags p b)
    whole_decides enough =
        rw (le-ltb d 1 least, le-ltb 3 d most, eq-eqb p (8 * (d * n)) (rw is at same), le-ltb b (4 * (d * n)) (rw is at enough))
        (or_none (not (eqb (b % 4) 0)))
