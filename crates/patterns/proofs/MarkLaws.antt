-- Marks: a column that is looked at and marked, and what a row's marking finds: whether its columns differ, from each other and from those marked before.
-- Assumes nothing.
use mathlib.Core.Path.{◌≡◌, refl, sym, ap, ◌∙◌}
use mathlib.Core.List.{List, [], ◌∷◌}
use mathlib.Core.Bool.{Bool, true, false}
use Prim.Native.Nat.{ℕ, zero, suc, ◌+◌, ◌<◌}
use native.Mathlib.Numerals.{add-one}
use native.Mathlib.Omega.{arith}
use lib.ListN.{length, get_or, set, replicate, length-set, length-replicate}
use lib.Seq.{drop-cons, drop-length}
use borrow.Author.Tests.{ltb-true}
use Rattle.base.proofs.All.{all_at}
use Rattle.patterns.specs.Pattern.{all_below}
use Rattle.patterns.specs.Marks.{is_fresh, all_fresh, AtMost, Below, Marking}
use Rattle.patterns.specs.Steps.{row_right}
use Rattle.patterns.proofs.TestLaws.{and_true}
use Rattle.patterns.proofs.OnceLaws.{fresh_once, fresh_after}

-- writing the stamp makes no mark rise above it
set_at_most : (stamp : ℕ) (marks : List ℕ) (c : ℕ) → AtMost stamp marks → AtMost stamp (set marks c stamp)
set_at_most stamp [] c most v = most v
set_at_most stamp (m ∷ marks) zero most zero = omega arith
set_at_most stamp (m ∷ marks) zero most (suc v) = most (suc v)
set_at_most stamp (m ∷ marks) (suc c) most zero = most zero
set_at_most stamp (m ∷ marks) (suc c) most (suc v) = set_at_most stamp marks c (λ w. most (suc w)) v

-- one column
pub marked_one : (stamp : ℕ) (row : List ℕ) (k column : ℕ) (marks : List ℕ) → k < length row → column ≡ get_or row k 0
    → Marking stamp row k (k + 1) (is_fresh stamp column marks) marks (set marks column stamp)
unfolding all_fresh
marked_one stamp row k column marks inside is =
    record {
      left = rw (drop-cons row k 0 inside, is, add-one);
      long = length-set marks column stamp;
      most = set_at_most stamp marks column;
    }

-- one that has the stamp: it decides, and no mark is written
pub marked_again : (stamp : ℕ) (row : List ℕ) (k column : ℕ) (marks : List ℕ) → k < length row → column ≡ get_or row k 0 → is_fresh stamp column marks ≡ false
    → Marking stamp row k (k + 1) false marks marks
unfolding all_fresh
marked_again stamp row k column marks inside is had =
    record { left = rw (drop-cons row k 0 inside, ← is, had); long = refl; most = λ most. most }

-- none yet
pub marked_none : (stamp : ℕ) (row : List ℕ) (k : ℕ) (marks : List ℕ) → Marking stamp row k k true marks marks
marked_none stamp row k marks = record { left = refl; long = refl; most = λ most. most }

module _ {stamp : ℕ} {row : List ℕ} {from to : ℕ} {found : Bool} {old new : List ℕ} (m : Marking stamp row from to found old new) where
  -- a column that had the stamp decides
  pub marked_stops : {end : ℕ} → found ≡ false → Marking stamp row from end false old new
  marked_stops is = record { left = rw is at m.left; long = m.long; most = m.most }

  pub marked_passes : found ≡ true → Marking stamp row from to true old new
  marked_passes is = record { left = rw is at m.left; long = m.long; most = m.most }

  -- after a part that is fresh another one goes on
  pub marked_on : {next end : ℕ} {later : Bool} {last : List ℕ} → found ≡ true → Marking stamp row next end later new last → to ≡ next
      → Marking stamp row from end later old last
  marked_on is b same =
      record {
        left = (rw (is, same) at m.left) ∙ b.left;
        long = b.long ∙ m.long;
        most = λ most. b.most (m.most most);
      }

  pub marked_to : {end : ℕ} → to ≡ end → Marking stamp row from end found old new
  marked_to same = rw same at m

-- a row's column is below the number of marks
pub column_below : (n : ℕ) (row : List ℕ) → all_below n row ≡ true → (k : ℕ) → k < length row → get_or row k 0 < n
unfolding all_below
column_below n row below k inside = ltb-true _ _ (all_at _ k (length row) below inside)

zeros : (n v : ℕ) → ◌≡◌ {A = ℕ} (get_or (replicate n 0) v 0) 0
zeros zero v = refl
zeros (suc n) zero = refl
zeros (suc n) (suc v) = zeros n v

-- marks as they are made
pub marks_new : Below 1 (replicate 4096 0)
marks_new = record { long = length-replicate {A = ℕ} 4096 0; low = λ v. omega (arith, zeros 4096 v) }

-- what a row's marking finds: its own column, if that is refused, is marked first
module _ (stamp own : ℕ) (row marks between new : List ℕ) (found : Bool) (start : Below stamp marks) (below : all_below 4096 row ≡ true) (small : own < 4096)
    (m : Marking stamp row 0 (length row) found between new) where
  inside : (k : ℕ) → k < length row → get_or row k 0 < length marks
  inside k h = rw start.long (column_below 4096 row below k h)

  whole : all_fresh stamp row between ≡ found
  unfolding all_fresh
  whole = m.left ∙ rw (drop-length row) (and_true found)

  pub right_refused : between ≡ set marks own stamp → (found ≡ row_right true own row) × Below (stamp + 1) new
  unfolding row_right
  right_refused made = (
    sym whole ∙ ap (all_fresh stamp row) made ∙ fresh_after stamp marks row start.low inside own (rw start.long small),
    record {
      long = m.long ∙ ap length made ∙ length-set marks own stamp ∙ start.long;
      low = λ v. omega (arith, m.most (rw made (set_at_most stamp marks own (λ w. omega (arith, start.low w)))) v);
    },
  )

  pub right_accepted : between ≡ marks → (found ≡ row_right false own row) × Below (stamp + 1) new
  unfolding row_right
  right_accepted made = (
    sym whole ∙ ap (all_fresh stamp row) made ∙ fresh_once stamp marks row start.low inside,
    record {
      long = m.long ∙ ap length made ∙ start.long;
      low = λ v. omega (arith, m.most (rw made (λ w. omega (arith, start.low w))) v);
    },
  )
