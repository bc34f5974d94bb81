-- The end of a call on bytes that its checks by lengths refuse.
-- Assumes nothing.
use mathlib.Core.Path.{◌≡◌}
use mathlib.Core.List.{List, ◌∷◌, ◌++◌}
use mathlib.Core.Bool.{not, ◌||◌}
use Prim.Native.Nat.{ℕ, ◌/◌}
use lib.ListN.{length}
use Rattle.answers.specs.Numbers.{Answer}
use Rattle.answers.specs.Numbers.{number_of}
use Rattle.answers.specs.Checks.{◌when◌, first_of}
use Rattle.answers.specs.Limits.{outside_of}
use Rattle.answers.specs.Promise.{Ends}
use Rattle.answers.proofs.EndLaws.{ends_earlier}
use Rattle.patterns.specs.Pattern.{valid_pattern}
use Rattle.elements.specs.declared.unchecked.Rule.{Rule}
use Rattle.elements.specs.Checks.{element_lengths, pair_checks, assembly_checks}
use Rattle.pattern_bytes.specs.Checks.{byte_checks}
use Rattle.element_bytes.specs.Checks.{broken_assembly, assembly_lengths}

-- r, c, o and cs are the words of the bytes, which are counted
module _ {A : Type 0} (dim rows cols element offsets columns diagonal values : ℕ) (r c o cs : List ℕ) (er : length r ≡ rows / 4) (ec : length c ≡ cols / 4)
    (eo : length o ≡ offsets / 4) (ecs : length cs ≡ columns / 4) (answer : Answer) (new old : A) where
  pub assembly_refused : (rule : Rule) → number_of answer ≡ first_of (assembly_lengths dim rows cols element offsets columns diagonal values) → (number_of answer ≡ 0 → ⊥)
      → Ends (byte_checks offsets columns (outside_of 1 3 dim || broken_assembly rows cols element offsets columns diagonal values)
      ++ assembly_checks dim rule r c (element / 8) o cs (diagonal / 8) (values / 8)) answer new old old
  assembly_refused rule first other =
      let misshapen = outside_of 1 3 dim || broken_assembly rows cols element offsets columns diagonal values in
      let earlier = byte_checks offsets columns misshapen ++ element_lengths dim (length r) (length c) (element / 8) (length o) (length cs) (diagonal / 8) (values / 8) in
      let same : number_of answer ≡ first_of earlier = rw (er, ec, eo, ecs) first in
      ends_earlier earlier ((3 when not (valid_pattern o cs)) ∷ pair_checks rule r c o cs) answer new old same other
