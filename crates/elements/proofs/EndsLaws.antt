-- How an assembly ends: a node outside, a pair without an entry, or all blocks added.
-- Assumes nothing.
use mathlib.Core.Path.{◌≡◌, refl, ap, ◌∙◌}
use mathlib.Core.List.{List, [], ◌∷◌, ◌++◌}
use mathlib.Core.Bool.{Bool, true, false, not, cond}
use Prim.Native.Nat.{ℕ, ◌*◌}
use lib.ListN.{length}
use lib.Ieee.{Float, Format}
use Rattle.std.specs.Prelude.{Ok, Err}
use Rattle.answers.specs.Numbers.{Answer}
use Rattle.answers.specs.declared.Refusal.TheVariants.{Pattern, Node, NoEntry}
use Rattle.answers.specs.Numbers.{number_of}
use Rattle.answers.specs.Checks.{Check, ◌when◌, first_of, none_holds}
use Rattle.answers.specs.Promise.{Ends}
use Rattle.answers.proofs.EndLaws.{ends_earlier, ends_later}
use Rattle.patterns.specs.Pattern.{rows_of, all_below}
use Rattle.elements.specs.declared.unchecked.Rule.{Rule}
use Rattle.elements.specs.Pairs.{entry_at, are_stored}
use Rattle.elements.specs.Assembly.{Lists, add_all, assembled}
use Rattle.elements.specs.Checks.{pair_checks}
use Rattle.elements.specs.Fits.{kept_at, Placed, AssemblyFits}
use Rattle.elements.proofs.AddLaws.{same_entries}
use Rattle.elements.proofs.FitLaws.{kept_is}

-- after each refusal nothing has changed
module _ (rule : Rule) (rows cols offsets columns : List ℕ) (new old : Lists) where
  pub row_outside : all_below (rows_of offsets) rows ≡ false → Ends (pair_checks rule rows cols offsets columns) (Err Node) new old old
  row_outside outside = record { number = rw outside; lent = rw outside }

  module _ (rows_in : all_below (rows_of offsets) rows ≡ true) where
    pub column_outside : all_below (rows_of offsets) cols ≡ false → Ends (pair_checks rule rows cols offsets columns) (Err Node) new old old
    column_outside outside = record { number = rw (rows_in, outside); lent = rw (rows_in, outside) }

    module _ (cols-in : all_below (rows_of offsets) cols ≡ true) where
      pub entry_missing : are_stored rule rows cols offsets columns ≡ false → Ends (pair_checks rule rows cols offsets columns) (Err NoEntry) new old old
      entry_missing missing = record { number = rw (rows_in, cols-in, missing); lent = rw (rows_in, cols-in, missing) }

      pub all_added : are_stored rule rows cols offsets columns ≡ true → (left : Lists) → left ≡ new → Ends (pair_checks rule rows cols offsets columns) (Ok tt) new old left
      all_added stored left is = record { number = rw (rows_in, cols-in, stored); lent = rw (rows_in, cols-in, stored) is }

-- with the entries that are kept, the blocks are added where the pattern has them
pub added_there : {n : ℕ} {rule : Rule} {rows cols : List ℕ} {element : ℕ} {offsets columns : List ℕ} {diagonal values : ℕ}
    → AssemblyFits n rule rows cols element offsets columns diagonal values → all_below (rows_of offsets) rows ≡ true → are_stored rule rows cols offsets columns ≡ true
    → (places : List ℕ) → Placed rule rows cols offsets columns (8 * length rows) places → (f : Format) (blocks : List Float) (left old : Lists)
    → left ≡ add_all f n rule rows cols blocks (kept_at places) old → left ≡ assembled f n rule rows cols blocks offsets columns old
added_there {n} {rule} {rows} {cols} {element} {offsets} {columns} fit inside all places kept f blocks left old is =
    is ∙ same_entries f n rule rows cols blocks (kept_at places) (entry_at rows cols offsets columns) (kept_is fit inside all places kept) old

-- a call whose lengths are checked first, then its pattern, then the nodes and pairs
module _ {A : Type 0} (lengths later : List Check) (valid : Bool) (new old : A) where
  pub lengths_refused : (answer : Answer) → number_of answer ≡ first_of lengths → (number_of answer ≡ 0 → ⊥)
      → Ends (lengths ++ ((3 when not valid) ∷ later)) answer new old old
  lengths_refused answer first other = ends_earlier lengths ((3 when not valid) ∷ later) answer new old first other

  pub pattern_refused : none_holds lengths ≡ true → valid ≡ false → Ends (lengths ++ ((3 when not valid) ∷ later)) (Err Pattern) new old old
  pattern_refused none wrong =
      ends_later lengths ((3 when not valid) ∷ later) (Err Pattern) new old old none (record { number = rw wrong; lent = rw wrong })

  pub later_decide : none_holds lengths ≡ true → valid ≡ true → (answer : Answer) (left : A) → Ends later answer new old left
      → Ends (lengths ++ ((3 when not valid) ∷ later)) answer new old left
  later_decide none right answer left end =
      ends_later lengths ((3 when not valid) ∷ later) answer new old left none (ends_later ((3 when not valid) ∷ []) later answer new old left (rw right) end)

-- the same of a part of what is lent
pub ends_of : {A B : Type 0} (g : A → B) (checks : List Check) (answer : Answer) (new old left : A) → Ends checks answer new old left
    → Ends checks answer (g new) (g old) (g left)
ends_of {A} {B} g checks answer new old left end = record { number = end.number; lent = ap g end.lent ∙ both (none_holds checks) }
  where
    both : (b : Bool) → g (cond b new old) ≡ cond b (g new) (g old)
    both true = refl
    both false = refl
