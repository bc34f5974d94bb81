-- The calls at 1, 2, 3 seen as one call with N as a number: its checks are those of the call, or N is wrong.
-- Assumes nothing.
use mathlib.Core.Path.{◌≡◌, refl}
use mathlib.Core.List.{List, ◌∷◌}
use mathlib.Core.Bool.{Bool, true, false, cond}
use Prim.Native.Nat.{ℕ, zero, suc}
use native.Mathlib.Omega.{arith}
use lib.Dec.{ltb}
use borrow.Author.Tests.{lt-ltb, le-ltb, ltb-false}
use Rattle.std.specs.Prelude.{Err}
use Rattle.answers.specs.Numbers.{Answer}
use Rattle.base.proofs.All.{or_left, or_right}
use Rattle.answers.specs.declared.Refusal.{Refusal}
use Rattle.answers.specs.Numbers.{refusal_number}
use Rattle.answers.specs.Checks.{Check, ◌when◌}
use Rattle.answers.specs.Limits.{outside_of}
use Rattle.answers.specs.Promise.{Ends}
use Rattle.lent.specs.Steps.{Dim}

-- N in range, as a test and as the layers below ask for it
pub dim_of : (d : ℕ) → outside_of 1 3 d ≡ false → Dim d
dim_of d inside =
    record {
      least = ltb-false d 1 (or_left (ltb d 1) (ltb 3 d) inside);
      most = ltb-false 3 d (or_right (ltb d 1) (ltb 3 d) inside);
    }

pub inside_of : (d : ℕ) → Dim d → outside_of 1 3 d ≡ false
inside_of d known = rw (le-ltb d 1 known.least, le-ltb 3 d known.most)

-- at an N in range a call's own check of its size, which comes first, may as well come twice
module _ {A : Type 0} (later : List Check) (answer : Answer) (new old left : A) where
  pub twice : (large : Bool) → Ends ((1 when large) ∷ later) answer new old left
      → Ends ((1 when large) ∷ (2 when false) ∷ (1 when large) ∷ later) answer new old left
  twice true end = record { number = end.number; lent = end.lent }
  twice false end = record { number = end.number; lent = end.lent }

  pub once : (large outside : Bool) → outside ≡ false → Ends ((1 when large) ∷ (2 when outside) ∷ (1 when large) ∷ later) answer new old left
      → Ends ((1 when large) ∷ later) answer new old left
  once true outside inside end = record { number = end.number; lent = end.lent }
  once false outside inside end = record { number = rw inside at end.number; lent = rw inside at end.lent }

pub other_dim : (d : ℕ) → (d ≡ 1 → ⊥) → (d ≡ 2 → ⊥) → (d ≡ 3 → ⊥) → outside_of 1 3 d ≡ true
other_dim zero one two three = refl
other_dim (suc zero) one two three = absurd (one refl)
other_dim (suc (suc zero)) one two three = absurd (two refl)
other_dim (suc (suc (suc zero))) one two three = absurd (three refl)
other_dim (suc (suc (suc (suc d)))) one two three =
    rw (le-ltb (suc (suc (suc (suc d)))) 1 (omega arith), lt-ltb 3 (suc (suc (suc (suc d)))) (omega arith))

refused_there : {A : Type 0} (large outside : Bool) (later : List Check) (why : Refusal) (new old : A) → refusal_number why ≡ cond large 1 2 → outside ≡ true
    → Ends ((1 when large) ∷ (2 when outside) ∷ later) (Err why) new old old
refused_there true outside later why new old number out = record { number = number; lent = refl }
refused_there false outside later why new old number out = record { number = rw out number; lent = rw out }

-- at no N
pub at_no_dim : {A : Type 0} (d : ℕ) → (d ≡ 1 → ⊥) → (d ≡ 2 → ⊥) → (d ≡ 3 → ⊥) → (large : Bool) (later : List Check) (why : Refusal)
    → refusal_number why ≡ cond large 1 2 → (new old : A) → Ends ((1 when large) ∷ (2 when outside_of 1 3 d) ∷ later) (Err why) new old old
at_no_dim d one two three large later why number new old =
    refused_there large (outside_of 1 3 d) later why new old number (other_dim d one two three)
