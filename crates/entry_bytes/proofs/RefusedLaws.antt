-- The ends of a call on bytes whose checks by lengths come first: refused by them, or as the call on the words ends.
-- Assumes nothing.
use mathlib.Core.Path.{◌≡◌, refl}
use mathlib.Core.List.{List, [], ◌∷◌, ◌++◌}
use mathlib.Core.Bool.{Bool, true, false, not, ◌||◌}
use Prim.Native.Nat.{ℕ, ◌/◌}
use native.Mathlib.Omega.{arith}
use lib.ListN.{length}
use Rattle.answers.specs.Numbers.{Answer}
use Rattle.answers.specs.Numbers.{number_of}
use Rattle.answers.specs.Checks.{Check, ◌when◌, first_of, none_holds}
use Rattle.answers.specs.Limits.{outside_of}
use Rattle.answers.specs.Promise.{Ends}
use Rattle.answers.proofs.EndLaws.{ends_earlier, ends_later}
use Rattle.patterns.specs.Pattern.{valid_entries}
use Rattle.patterns.specs.Checks.{too_large}
use Rattle.elements.specs.declared.unchecked.Rule.TheVariants.{Never}
use Rattle.elements.specs.Checks.{entry_lengths, pair_checks, blkcsr_checks}
use Rattle.pattern_bytes.specs.Checks.{byte_checks}
use Rattle.entry_bytes.specs.Checks.{broken_entries}
use Rattle.entry_bytes.specs.Rooms.{blkcsr_lengths}

-- r, c, o and cs are the words of the bytes, which are counted
module _ {A : Type 0} (dim rows cols element offsets columns values : ℕ) (r c o cs : List ℕ) (er : length r ≡ rows / 4) (ec : length c ≡ cols / 4)
    (eo : length o ≡ offsets / 4) (ecs : length cs ≡ columns / 4) (answer : Answer) (new old : A) where
  pub blkcsr_refused : number_of answer ≡ first_of (blkcsr_lengths dim rows cols element offsets columns values) → (number_of answer ≡ 0 → ⊥)
      → Ends (byte_checks offsets columns (outside_of 1 3 dim || broken_entries rows cols element offsets columns values)
      ++ blkcsr_checks dim r c (element / 8) o cs (values / 8)) answer new old old
  blkcsr_refused first other =
      let misshapen = outside_of 1 3 dim || broken_entries rows cols element offsets columns values in
      let earlier = byte_checks offsets columns misshapen ++ entry_lengths dim (length r) (length c) (element / 8) (length o) (length cs) (values / 8) in
      let same : number_of answer ≡ first_of earlier = rw (er, ec, eo, ecs) first in
      ends_earlier earlier ((3 when not (valid_entries o cs)) ∷ pair_checks Never r c o cs) answer new old same other

-- past the checks by lengths none of the bytes' own holds
none_of_bytes : (large wrong : Bool) (later : List Check) → first_of ((1 when large) ∷ (2 when wrong) ∷ later) ≡ 0 → none_holds ((1 when large) ∷ (2 when wrong) ∷ []) ≡ true
none_of_bytes true wrong later zero_is = absurd (omega (arith, zero_is))
none_of_bytes false true later zero_is = absurd (omega (arith, zero_is))
none_of_bytes false false later zero_is = refl

pub words_end : {A : Type 0} (offsets columns : ℕ) (misshapen : Bool) (lengths later : List Check) (answer : Answer) (new old left : A)
    → first_of (byte_checks offsets columns misshapen ++ lengths) ≡ 0 → Ends later answer new old left
    → Ends (byte_checks offsets columns misshapen ++ later) answer new old left
words_end offsets columns misshapen lengths later answer new old left zero_is end =
    ends_later (byte_checks offsets columns misshapen) later answer new old left (none_of_bytes (too_large (offsets / 4) (columns / 4)) misshapen lengths zero_is) end
