-- The way from bytes to bytes: what the call of a rule asks and promises, and what the decoded words become.
-- Assumes nothing.
use mathlib.Core.Path.{◌≡◌, sym, ap, ◌∙◌}
use mathlib.Core.List.{List, ◌++◌}
use mathlib.Core.Bool.{true, ◌&&◌}
use Prim.Native.Nat.{ℕ, ◌/◌}
use native.Mathlib.Omega.{arith}
use lib.Dec.{leb}
use lib.ListN.{length}
use lib.Ieee.{Float, Format, binary64}
use Rattle.answers.specs.Numbers.{Answer}
use Rattle.answers.specs.Limits.{outside_of}
use Rattle.answers.specs.Promise.{Ends}
use Rattle.lent.specs.Steps.{Dim}
use Rattle.patterns.specs.Checks.{too_large}
use Rattle.elements.specs.declared.unchecked.Rule.{Rule}
use Rattle.elements.specs.Assembly.{Lists, assembled, merged, csrdia_of}
use Rattle.elements.specs.Checks.{assembly_checks, merge_checks, csrdia_checks}
use Rattle.wire.specs.Bytes.{values_in}
use Rattle.wire.specs.Words.{indexes_in}
use Rattle.wire.proofs.ByteLaws.{length_values}
use Rattle.pattern_bytes.specs.Checks.{Held}
use Rattle.numbered.specs.Checks.{dim_checks}
use Rattle.numbered.proofs.NumberedLaws.{once, inside_of}
use Rattle.entry_bytes.proofs.SizeLaws.{held, few_offsets}
use Rattle.assembly_bytes.specs.declared.unchecked.Call.{Call}
use Rattle.assembly_bytes.specs.declared.unchecked.Call.TheVariants.{Merge, Csrdia}
use Rattle.assembly_bytes.specs.Ways.{lists_in, rule_of, Called, AssemblyEnds, DiagonalSized}

-- ---- the call that a rule stands for

-- nodes that are read from bytes
pub called_words : (call : Call) (dim : ℕ) (rows cols nodes others : List ℕ) → Called call dim rows cols → nodes ≡ indexes_in rows → others ≡ indexes_in cols
    → Called call dim nodes others
called_words Merge dim rows cols nodes others called en eo = eo ∙ ap indexes_in called ∙ sym en
called_words Csrdia dim rows cols nodes others called en eo = called

module _ (f : Format) (dim : ℕ) (rows cols : List ℕ) (element : List Float) (offsets columns : List ℕ) (old left : Lists) (answer : Answer) (call : Call)
    (called : Called call dim rows cols) where
  pub by_merge : call ≡ Merge → Dim dim
      → Ends (dim_checks dim (length offsets) (length columns) ++ merge_checks dim rows (length element) offsets columns (length old.0) (length old.1)) answer
      (merged f dim rows element offsets columns old) old left
      → Ends (assembly_checks dim (rule_of call) rows cols (length element) offsets columns (length old.0) (length old.1)) answer
      (assembled f dim (rule_of call) rows cols element offsets columns old) old left
  by_merge is known end =
      let same : cols ≡ rows = rw is at called in
      rw (is, same) (once _ answer _ old left (too_large (length offsets) (length columns)) (outside_of 1 3 dim) (inside_of dim known) end)

  pub by_csrdia : call ≡ Csrdia
      → Ends (csrdia_checks rows cols (length element) offsets columns (length old.0) (length old.1)) answer
      (csrdia_of f rows cols element offsets columns old) old left
      → Ends (assembly_checks dim (rule_of call) rows cols (length element) offsets columns (length old.0) (length old.1)) answer
      (assembled f dim (rule_of call) rows cols element offsets columns old) old left
  by_csrdia is end =
      let one : dim ≡ 1 = rw is at called in
      rw (is, one) end

-- ---- words read, words written

-- the words of a matrix
pub matrix_read : (dim : ℕ) (rule : Rule) (rows cols : List ℕ) (element : List Float) (offsets columns diagonal values offs inds : List ℕ) (ds vs : List Float) (left : Lists)
    (answer : Answer) → offs ≡ indexes_in offsets → inds ≡ indexes_in columns → ds ≡ values_in binary64 diagonal → vs ≡ values_in binary64 values
    → Ends {A = Lists} (assembly_checks dim rule rows cols (length element) offs inds (length ds) (length vs)) answer
    (assembled binary64 dim rule rows cols element offs inds (ds, vs)) (ds, vs) left
    → Ends {A = Lists} (assembly_checks dim rule rows cols (length element) (indexes_in offsets) (indexes_in columns) (length diagonal / 8) (length values / 8)) answer
    (assembled binary64 dim rule rows cols element (indexes_in offsets) (indexes_in columns) (lists_in binary64 diagonal values)) (lists_in binary64 diagonal values) left
matrix_read dim rule rows cols element offsets columns diagonal values offs inds ds vs left answer eo ec ed ev end =
    rw (eo, ec, ed, ev, length_values binary64 diagonal, length_values binary64 values) at end

-- the words of an element
pub element_read : (call : Call) (dim : ℕ) (rows cols element offsets columns diagonal values new_diagonal new_values nodes others : List ℕ) (blocks : List Float)
    (answer : Answer) → nodes ≡ indexes_in rows → others ≡ indexes_in cols → blocks ≡ values_in binary64 element
    → AssemblyEnds binary64 call dim nodes others blocks offsets columns diagonal values answer new_diagonal new_values
    → AssemblyEnds binary64 call dim (indexes_in rows) (indexes_in cols) (values_in binary64 element) offsets columns diagonal values answer new_diagonal new_values
element_read call dim rows cols element offsets columns diagonal values new_diagonal new_values nodes others blocks answer en eo eb end = rw (en, eo, eb) at end

-- which are counted by its bytes
pub element_counted : {A : Type 0} (dim : ℕ) (rule : Rule) (rows cols element offsets columns : List ℕ) (diagonal values : ℕ) (answer : Answer) (new old left : A)
    → Ends (assembly_checks dim rule rows cols (length (values_in binary64 element)) offsets columns diagonal values) answer new old left
    → Ends (assembly_checks dim rule rows cols (length element / 8) offsets columns diagonal values) answer new old left
element_counted dim rule rows cols element offsets columns diagonal values answer new old left end = rw (length_values binary64 element) at end

-- two slices of bytes, each as it should be
pub both_are : {A B : Type 0} {a c : A} {b d : B} → a ≡ c → b ≡ d → ◌≡◌ {A = A × B} (a, b) (c, d)
both_are p q = cc

-- ---- room

-- a small pattern has few values on its diagonal
pub small_diagonal : (offsets columns : ℕ) → (leb (offsets / 4) 17 && leb (columns / 4) 64) ≡ true → (diagonal : ℕ) → DiagonalSized offsets diagonal → Held 8 144 diagonal
small_diagonal offsets columns small diagonal sizes =
    held 8 144 diagonal sizes.full.whole (omega (arith, few_offsets offsets columns small, sizes.per_row))
