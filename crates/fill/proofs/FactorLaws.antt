-- Rows that rise, one after the other, make a factor pattern: `check_factor` passes their offsets, their columns and their splits.
-- Assumes nothing.
use mathlib.Core.Path.{◌≡◌, refl, sym, ap, ◌∙◌}
use mathlib.Core.Logic.{◌≢◌}
use mathlib.Core.List.{List, [], ◌∷◌, ◌++◌, append-nil}
use mathlib.Core.Bool.{true}
use Prim.Native.Nat.{ℕ, zero, suc, ◌+◌, ◌-◌, ◌≤◌, ◌<◌}
use native.Mathlib.Numerals.{add-one}
use native.Mathlib.Omega.{arith}
use lib.Dec.{ltb, leb, eqb}
use lib.ListN.{length, get_or}
use lib.Seq.{ext_get_or}
use borrow.Author.Tests.{eq-eqb, ne_eqb, le-leb, le-ltb, lt-ltb}
use Rattle.base.specs.First.{first_in}
use Rattle.base.proofs.All.{all_of}
use Rattle.answers.specs.Checks.{first_of}
use Rattle.patterns.specs.Pattern.{rows_of, row_of, never_fall, rises, all_rise, split_of, true_splits, valid_offsets, valid_pattern, valid_splits}
use Rattle.patterns.specs.Steps.{Ordered, climbs, rows_climb}
use Rattle.patterns.specs.Checks.{factor_checks}
use Rattle.patterns.proofs.OffsetLaws.{last_decides}
use Rattle.patterns.proofs.RowLaws.{valid_pattern_lem}
use Rattle.patterns.proofs.FastLaws.{climbing_valid}
use Rattle.fill.specs.Fill.{joined, listed}
use Rattle.fill.proofs.JoinedLaws.{joined_behind, joined_longer}
use Rattle.fill.proofs.GoingLaws.{part_of}
use Rattle.fill.proofs.Meaning.{get_d_listed}

-- row `own` of n rows: its columns rise strictly, are below n, and its own is none of them
pub record FactorRow (n own : ℕ) (row : List ℕ) : Type 0 where
  pub rising : (e : ℕ) → suc e < length row → get_or row e 0 < get_or row (suc e) 0
  pub below : (e : ℕ) → e < length row → get_or row e 0 < n
  pub apart : (e : ℕ) → e < length row → get_or row e 0 ≢ own

module _ (n own : ℕ) where
  tail : (c : ℕ) (row : List ℕ) → FactorRow n own (c ∷ row) → FactorRow n own row
  tail c row F = record {
    rising = λ e h. F.rising (suc e) (omega arith);
    below = λ e h. F.below (suc e) (omega arith);
    apart = λ e h. F.apart (suc e) (omega arith);
  }

  -- such a row climbs, and rises
  row_climbs : (row : List ℕ) (least : ℕ) → (0 < length row → least ≤ get_or row 0 0) → FactorRow n own row → climbs n own least row ≡ true
  unfolding climbs
  row_climbs [] least low F = refl
  row_climbs (c ∷ row) least low F =
      rw (le-leb least c (low (omega arith)), ne_eqb c own (F.apart 0 (omega arith)), lt-ltb c n (F.below 0 (omega arith)))
      (row_climbs row (c + 1) (λ h. omega (arith, F.rising 0 (omega arith))) (tail c row F))

  pub row_rises : (row : List ℕ) → FactorRow n own row → rises row ≡ true
  unfolding rises
  row_rises row F =
      all_of (λ e. ltb (get_or row e 0) (get_or row (e + 1) 0)) (length row - 1)
      (λ e h. rw add-one (lt-ltb (get_or row e 0) (get_or row (suc e) 0) (F.rising e (omega arith))))

-- where the columns up to `own` end, the search for one above it does
pub first_above : (own : ℕ) (low high : List ℕ) → ((e : ℕ) → e < length low → get_or low e 0 ≤ own) → ((e : ℕ) → e < length high → own < get_or high e 0)
    → first_in (λ c. ltb own c) (low ++ high) ≡ length low
unfolding first_in
first_above own [] [] l h = refl
first_above own [] (c ∷ high) l h = rw (lt-ltb own c (h 0 (omega arith)))
first_above own (c ∷ low) high l h = rw (le-ltb own c (l 0 (omega arith))) (ap suc (first_above own low high (λ e b. l (suc e) (omega arith)) h))

pub length_listed : (f : ℕ → ℕ) (c d : ℕ) → length (listed f c d) ≡ d
unfolding listed
length_listed f c zero = refl
length_listed f c (suc d) = ap suc (length_listed f (suc c) d)

pub listed_at : (f : ℕ → ℕ) (d i : ℕ) → i < d → get_or (listed f 0 d) i 0 ≡ f i
listed_at f d i h = let e : 0 + i ≡ i = omega arith in rw e at (get_d_listed f 0 d i h)

module _ (row : ℕ → List ℕ) where
  -- n + 1 offsets say where each row begins, and where the last one ends
  pub record Starts (n : ℕ) (offsets : List ℕ) : Type 0 where
    pub long : length offsets ≡ n + 1
    pub at : (i : ℕ) → i ≤ n → get_or offsets i 0 ≡ length (joined row i)

  -- there is one such list
  pub one_starts : (n : ℕ) (o o' : List ℕ) → Starts n o → Starts n o' → o ≡ o'
  one_starts n o o' S T = ext_get_or 0 o o' (S.long ∙ sym T.long) (λ i h. S.at i (omega (arith, S.long)) ∙ sym (T.at i (omega (arith, S.long))))

  pub listed_starts : (f : ℕ → ℕ) (n : ℕ) → ((i : ℕ) → i ≤ n → f i ≡ length (joined row i)) → Starts n (listed f 0 (n + 1))
  listed_starts f n is = record { long = length_listed f 0 (n + 1); at = λ i h. listed_at f (n + 1) i (omega arith) ∙ is i h }

module _ (row : ℕ → List ℕ) (n : ℕ) (offsets : List ℕ) (S : Starts row n offsets) where
  rows_are : rows_of offsets ≡ n
  rows_are = omega (arith, S.long)

  -- the rows that stand there are those that were joined
  pub row_of_lem : (i : ℕ) → i < n → row_of offsets (joined row n) i ≡ row i
  unfolding row_of
  row_of_lem i h =
      let b = joined_behind row i n h in
      let columns : joined row n ≡ (joined row i ++ (([] ++ row i) ++ b.0)) ++ [] = b.1 ∙ sym (append-nil _) in
      rw (S.at i (omega arith), S.at (i + 1) (omega arith))
      (part_of (joined row i) [] (row i) b.0 [] (joined row n) (length (joined row i)) (length (joined row (i + 1))) columns (omega arith) (joined_longer row i)).0

  pub joined_offsets : valid_offsets offsets (joined row n) ≡ true
  unfolding joined never_fall
  joined_offsets =
      let rise =
      all_of (λ i. leb (get_or offsets i 0) (get_or offsets (i + 1) 0)) (rows_of offsets)
      (λ i h. le-leb (get_or offsets i 0) (get_or offsets (i + 1) 0) (omega (arith, S.at i (omega arith), S.at (i + 1) (omega arith), joined_longer row i))) in
      let last : length (joined row n) ≡ get_or offsets (rows_of offsets) 0 = rw rows_are (sym (S.at n (omega arith))) in
      sym (last_decides offsets (joined row n) (omega arith) (S.at 0 (omega arith)) rise (length (joined row n)) last) ∙ eq-eqb (length (joined row n)) (length (joined row n)) refl

  -- a split is true where the columns up to i end
  pub split_of_lem : (i : ℕ) → i < n → (low high : List ℕ) → row i ≡ low ++ high → ((e : ℕ) → e < length low → get_or low e 0 ≤ i)
      → ((e : ℕ) → e < length high → i < get_or high e 0) → split_of offsets (joined row n) i ≡ length (joined row i) + length low
  unfolding split_of
  split_of_lem i h low high parts l u = rw (row_of_lem i h, parts, S.at i (omega arith), first_above i low high l u)

  module _ (rows : (i : ℕ) → i < n → FactorRow n i (row i)) where
    pub joined_rise : all_rise offsets (joined row n) ≡ true
    unfolding all_rise
    joined_rise = all_of (λ i. rises (row_of offsets (joined row n) i)) (rows_of offsets) (λ i h. rw (row_of_lem i (omega arith)) (row_rises n i (row i) (rows i (omega arith))))

    pub joined_valid : 1 ≤ n → n ≤ 4096 → valid_pattern offsets (joined row n) ≡ true
    unfolding rows_climb
    joined_valid some few =
        let ordered : Ordered offsets (joined row n) = record { some = omega arith; few = omega arith; valid = joined_offsets } in
        let climb =
        all_of (λ i. climbs (rows_of offsets) i 0 (row_of offsets (joined row n) i)) (rows_of offsets)
        (λ i h. rw (rows_are, row_of_lem i (omega arith)) (row_climbs n i (row i) 0 (λ _. omega arith) (rows i (omega arith)))) in
        sym (valid_pattern_lem offsets (joined row n)) ∙ climbing_valid true offsets (joined row n) ordered climb

    module _ (splits : List ℕ) (split : (i : ℕ) → i < n → get_or splits i 0 ≡ split_of offsets (joined row n) i) where
      pub joined_splits : true_splits offsets (joined row n) splits ≡ true
      unfolding true_splits
      joined_splits = all_of (λ i. eqb (get_or splits i 0) (split_of offsets (joined row n) i)) (rows_of offsets) (λ i h. eq-eqb _ _ (split i (omega arith)))

      -- so that the checks of `check_factor` all pass
      pub joined_passes : 1 ≤ n → n ≤ 4096 → length (joined row n) ≤ 65535 → length splits ≡ n → first_of (factor_checks offsets (joined row n) splits) ≡ 0
      unfolding valid_splits
      joined_passes some few room long =
          rw (
            le-ltb (rows_of offsets) 1 (omega arith),
            le-ltb 4096 (rows_of offsets) (omega arith),
            le-ltb (length (joined row n)) 0 (omega arith),
            le-ltb 65535 (length (joined row n)) room,
            eq-eqb (length splits) (rows_of offsets) (omega arith),
            joined_valid some few,
            joined_rise,
            joined_splits,
          )
