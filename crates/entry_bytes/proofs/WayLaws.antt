-- The way from bytes to bytes: the call on the words, and what the decoded words become.
-- Assumes nothing.
use mathlib.Core.Path.{◌≡◌, sym, ap, ◌∙◌}
use mathlib.Core.List.{List, ◌++◌}
use mathlib.Core.Bool.{true, false}
use Prim.Native.Nat.{ℕ, ◌/◌}
use lib.ListN.{length}
use lib.Ieee.{Float, Format, binary64}
use Rattle.answers.specs.Numbers.{Answer}
use Rattle.answers.specs.Numbers.{number_of}
use Rattle.answers.specs.Checks.{Check, none_holds}
use Rattle.answers.specs.Limits.{outside_of}
use Rattle.answers.specs.Promise.{Ends, names}
use Rattle.answers.proofs.EndLaws.{none_of_zero, refused}
use Rattle.lent.specs.Steps.{Dim}
use Rattle.patterns.specs.Checks.{too_large}
use Rattle.elements.specs.Assembly.{blkcsr_of}
use Rattle.elements.specs.Checks.{blkcsr_checks}
use Rattle.wire.specs.Bytes.{values_in}
use Rattle.wire.specs.Words.{indexes_in}
use Rattle.wire.proofs.ByteLaws.{length_values}
use Rattle.numbered.specs.Checks.{dim_checks}
use Rattle.numbered.proofs.NumberedLaws.{once, inside_of}
use Rattle.entry_bytes.specs.Rooms.{BlkcsrEnds}

-- ---- the call

pub by_blkcsr : (f : Format) (dim : ℕ) (rows cols : List ℕ) (element : List Float) (offsets columns : List ℕ) (old left : List Float) (answer : Answer) → Dim dim
    → Ends (dim_checks dim (length offsets) (length columns) ++ blkcsr_checks dim rows cols (length element) offsets columns (length old)) answer
    (blkcsr_of f dim rows cols element offsets columns old) old left
    → Ends (blkcsr_checks dim rows cols (length element) offsets columns (length old)) answer (blkcsr_of f dim rows cols element offsets columns old) old left
by_blkcsr f dim rows cols element offsets columns old left answer known end =
    once _ answer _ old left (too_large (length offsets) (length columns)) (outside_of 1 3 dim) (inside_of dim known) end

-- ---- words read, words written

-- the words of a matrix
pub entries_read : (dim : ℕ) (rows cols : List ℕ) (element : List Float) (offsets columns values offs inds : List ℕ) (vs left : List Float) (answer : Answer)
    → offs ≡ indexes_in offsets → inds ≡ indexes_in columns → vs ≡ values_in binary64 values
    → Ends (blkcsr_checks dim rows cols (length element) offs inds (length vs)) answer (blkcsr_of binary64 dim rows cols element offs inds vs) vs left
    → Ends (blkcsr_checks dim rows cols (length element) (indexes_in offsets) (indexes_in columns) (length values / 8)) answer
    (blkcsr_of binary64 dim rows cols element (indexes_in offsets) (indexes_in columns) (values_in binary64 values)) (values_in binary64 values) left
entries_read dim rows cols element offsets columns values offs inds vs left answer eo ec ev end =
    rw (eo, ec, ev, length_values binary64 values) at end

-- the words of an element
pub nodes_read : (dim : ℕ) (rows cols element offsets columns values new_values nodes others : List ℕ) (blocks : List Float) (answer : Answer)
    → nodes ≡ indexes_in rows → others ≡ indexes_in cols → blocks ≡ values_in binary64 element
    → BlkcsrEnds binary64 dim nodes others blocks offsets columns values answer new_values
    → BlkcsrEnds binary64 dim (indexes_in rows) (indexes_in cols) (values_in binary64 element) offsets columns values answer new_values
nodes_read dim rows cols element offsets columns values new_values nodes others blocks answer en eo eb end = rw (en, eo, eb) at end

-- which are counted by its bytes
pub nodes_counted : {A : Type 0} (dim : ℕ) (rows cols element offsets columns : List ℕ) (values : ℕ) (answer : Answer) (new old left : A)
    → Ends (blkcsr_checks dim rows cols (length (values_in binary64 element)) offsets columns values) answer new old left
    → Ends (blkcsr_checks dim rows cols (length element / 8) offsets columns values) answer new old left
nodes_counted dim rows cols element offsets columns values answer new old left end = rw (length_values binary64 element) at end

-- A call on words, seen as one on bytes: done, what it left is written; refused, nothing is.
module _ {A B : Type 0} (g : A → B) (checks : List Check) (answer : Answer) (new old left : A) (end : Ends checks answer new old left) where
  pub written : (oldBytes leftBytes : B) → names 0 checks ≡ false → number_of answer ≡ 0 → leftBytes ≡ g left → Ends checks answer (g new) oldBytes leftBytes
  written oldBytes leftBytes unnamed zero_is right =
      let none : none_holds checks ≡ true = none_of_zero checks unnamed (sym end.number ∙ zero_is) in
      let done : left ≡ new = rw none at end.lent in
      record { number = end.number; lent = rw none (right ∙ ap g done) }

  pub unwritten : (oldBytes : B) → (number_of answer ≡ 0 → ⊥) → Ends checks answer (g new) oldBytes oldBytes
  unwritten oldBytes other = refused checks answer end.number (g new) oldBytes other
