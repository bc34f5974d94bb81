-- What a caller knows of the place that a lookup answers with, and of the columns that a lookup has passed.
-- Assumes nothing.
use mathlib.Core.Path.{◌≡◌, refl, sym, ap, ◌∙◌}
use mathlib.Core.List.{List, [], ◌∷◌}
use mathlib.Core.Bool.{Bool, true, false, cond}
use Prim.Native.Nat.{ℕ, zero, suc, ◌≤◌, ◌<◌}
use native.Mathlib.Nat.{not-suc-le-zero, le_of_suc-le-suc}
use native.Mathlib.Omega.{arith}
use lib.Dec.{ltb, eqb}
use lib.ListN.{length, get_or}
use borrow.Author.Tests.{ltb-true, ltb-false, lt-ltb, le-ltb, eqb-true, eqb-false, eq-eqb, ne_eqb, not-true, not-false}
use Rattle.base.specs.First.{first_in}
use Rattle.answers.specs.Limits.{is_place}
use Rattle.patterns.specs.Pattern.{absent_to, once}
use Rattle.rows.specs.Lookup.{no_place, place_in}
use Rattle.rows.proofs.RowLaws.{absent_at, absent_of, once_at}

abbrev first_place : List ℕ → ℕ → ℕ
first_place row x = first_in (λ c. eqb c x) row

-- the first place with column x, by the columns before it
first_is : (row : List ℕ) (x k : ℕ) → k < length row → ((j : ℕ) → j < k → get_or row j 0 ≡ x → ⊥) → get_or row k 0 ≡ x → first_place row x ≡ k
unfolding first_in
first_is [] x k below apart here = absurd (not-suc-le-zero below)
first_is (y ∷ row) x zero below apart here = rw (eq-eqb y x here)
first_is (y ∷ row) x (suc k) below apart here =
    rw (ne_eqb y x (apart zero (omega arith))) (ap suc (first_is row x k (le_of_suc-le-suc below) (λ j before. apart (suc j) (omega arith)) here))

first_none : (row : List ℕ) (x : ℕ) → ((j : ℕ) → j < length row → get_or row j 0 ≡ x → ⊥) → first_place row x ≡ length row
unfolding first_in
first_none [] x apart = refl
first_none (y ∷ row) x apart =
    rw (ne_eqb y x (apart zero (omega arith))) (ap suc (first_none row x (λ j below. apart (suc j) (omega arith))))

-- what stands there, and before it
first_there : (row : List ℕ) (x : ℕ) → first_place row x < length row → get_or row (first_place row x) 0 ≡ x
unfolding first_in
first_there [] x below = absurd (not-suc-le-zero below)
first_there (y ∷ row) x below = go (eqb y x) refl below (first_there row x)
  where
    go : (b : Bool) → eqb y x ≡ b → cond b 0 (suc (first_place row x)) < suc (length row)
        → (first_place row x < length row → get_or row (first_place row x) 0 ≡ x)
        → get_or (y ∷ row) (cond b 0 (suc (first_place row x))) 0 ≡ x
    go true e below rest = eqb-true y x e
    go false e below rest = rest (le_of_suc-le-suc below)

first_apart : (row : List ℕ) (x j : ℕ) → j < first_place row x → get_or row j 0 ≡ x → ⊥
unfolding first_in
first_apart [] x j before = absurd (not-suc-le-zero before)
first_apart (y ∷ row) x j before = go (eqb y x) refl j before (first_apart row x)
  where
    go : (b : Bool) → eqb y x ≡ b → (j : ℕ) → j < cond b 0 (suc (first_place row x))
        → ((i : ℕ) → i < first_place row x → get_or row i 0 ≡ x → ⊥) → get_or (y ∷ row) j 0 ≡ x → ⊥
    go true e j before rest = absurd (not-suc-le-zero before)
    go false e zero before rest = eqb-false y x e
    go false e (suc j) before rest = rest j (le_of_suc-le-suc before)

-- The first place with a column: it is within the row, the column stands there, and at no place before it.
pub record Found (row : List ℕ) (column place : ℕ) : Type 0 where
  pub below : place < length row
  pub there : get_or row place 0 ≡ column
  pub first : absent_to row column place ≡ true

-- how a lookup comes to its answer
pub found_at : (row : List ℕ) (column k : ℕ) → Found row column k → place_in row column ≡ k
unfolding place_in
found_at row column k found =
    rw (first_is row column k found.below (λ j. absent_at row column k j found.first) found.there, lt-ltb k (length row) found.below)

pub found_nowhere : (row : List ℕ) (column : ℕ) → absent_to row column (length row) ≡ true → place_in row column ≡ no_place
unfolding place_in
found_nowhere row column absent =
    rw (first_none row column (λ j. absent_at row column (length row) j absent), le-ltb (length row) (length row) (omega arith))

-- a column that stands once is found where it stands
pub found_once : (row : List ℕ) (column k : ℕ) → once row ≡ true → k < length row → get_or row k 0 ≡ column → place_in row column ≡ k
found_once row column k single below there =
    found_at row column k (record { below = below; there = there; first = absent_of row column k (λ j before e. once_at row j k single before below (e ∙ sym there)) })

-- what an answer says: if it is a place, that the column stands there first
pub is_found : (row : List ℕ) (column place : ℕ) → place_in row column ≡ place → is_place place ≡ true → Found row column place
unfolding place_in
is_found row column place e some = go (ltb (first_place row column) (length row)) refl e
  where
    go : (b : Bool) → ltb (first_place row column) (length row) ≡ b → cond b (first_place row column) no_place ≡ place → Found row column place
    go true less same = rw (← same) (record {
      below = ltb-true _ _ less;
      there = first_there row column (ltb-true _ _ less);
      first = absent_of row column (first_place row column) (first_apart row column);
    })
    go false less same = absurd (eqb-false place no_place (not-true (eqb place no_place) some) (sym same))

-- if it is "no place", that the column is absent
pub is_absent : (row : List ℕ) (column place : ℕ) → length row ≤ 65535 → place_in row column ≡ place → is_place place ≡ false → absent_to row column (length row) ≡ true
unfolding place_in
is_absent row column place short e none = go (ltb (first_place row column) (length row)) refl e
  where
    go : (b : Bool) → ltb (first_place row column) (length row) ≡ b → cond b (first_place row column) no_place ≡ place
        → absent_to row column (length row) ≡ true
    go true less same = absurd (omega (arith, ltb-true (first_place row column) (length row) less, eqb-true place no_place (not-false (eqb place no_place) none)))
    go false less same = absent_of row column (length row) (λ j below. first_apart row column j (omega (arith, ltb-false (first_place row column) (length row) less)))
