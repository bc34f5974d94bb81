-- The promise of a call that is done or changes nothing: it fixes the answer and all that is lent, and its number tells which of the two it was.
-- Assumes nothing.
use mathlib.Core.Path.{◌≡◌, refl, sym, ap, ◌∙◌}
use mathlib.Core.List.{List, [], ◌∷◌, ◌++◌}
use mathlib.Core.Bool.{Bool, true, false, cond, ◌||◌}
use Prim.Native.Nat.{ℕ}
use native.Mathlib.Omega.{arith}
use lib.Dec.{eqb}
use borrow.Author.Tests.{eq-eqb}
use Rattle.answers.specs.Numbers.{Answer}
use Rattle.base.proofs.All.{or_left, or_right}
use Rattle.answers.specs.Numbers.{number_of}
use Rattle.answers.specs.Checks.{Check, ◌when◌, first_of, none_holds}
use Rattle.answers.specs.Promise.{after, Ends, names}
use Rattle.answers.proofs.SameAnswer.{same_number}

not_both : {b : Bool} → b ≡ true → b ≡ false → ⊥
not_both p q = let z : ◌≡◌ {A = ℕ} 1 0 = ap (λ (b : Bool). cond b 1 0) (sym p ∙ q) in absurd (omega arith)

-- 0 says that no condition holds
pub none_of_zero : (checks : List Check) → names 0 checks ≡ false → first_of checks ≡ 0 → none_holds checks ≡ true
none_of_zero [] unnamed zero_is = refl
none_of_zero ((k when true) ∷ later) unnamed zero_is = absurd (not_both (eq-eqb k 0 zero_is) (or_left (eqb k 0) (names 0 later) unnamed))
none_of_zero ((k when false) ∷ later) unnamed zero_is = none_of_zero later (or_right (eqb k 0) (names 0 later) unnamed) zero_is

-- any other number says that one does
pub some_of_number : (checks : List Check) → (first_of checks ≡ 0 → ⊥) → none_holds checks ≡ false
some_of_number [] other = absurd (other refl)
some_of_number ((k when true) ∷ later) other = refl
some_of_number ((k when false) ∷ later) other = some_of_number later other

-- a list answers only numbers that it has
pub unnamed_number : (checks : List Check) (k : ℕ) → (0 ≡ k → ⊥) → names k checks ≡ false → first_of checks ≡ k → ⊥
unnamed_number [] k other unnamed is = other is
unnamed_number ((j when true) ∷ later) k other unnamed is = not_both (eq-eqb j k is) (or_left (eqb j k) (names k later) unnamed)
unnamed_number ((j when false) ∷ later) k other unnamed is = unnamed_number later k other (or_right (eqb j k) (names k later) unnamed) is

-- Checks that come one after the other: the later ones decide only if no earlier one holds.
pub refused_earlier : (earlier later : List Check) → (first_of earlier ≡ 0 → ⊥) → first_of (earlier ++ later) ≡ first_of earlier
refused_earlier [] later other = absurd (other refl)
refused_earlier ((k when true) ∷ earlier) later other = refl
refused_earlier ((k when false) ∷ earlier) later other = refused_earlier earlier later other

pub left_to_later : (earlier later : List Check) → none_holds earlier ≡ true → first_of (earlier ++ later) ≡ first_of later
left_to_later [] later none = refl
left_to_later ((k when true) ∷ earlier) later none = absurd (not_both none refl)
left_to_later ((k when false) ∷ earlier) later none = left_to_later earlier later none

none_later : (earlier later : List Check) → none_holds earlier ≡ true → none_holds (earlier ++ later) ≡ none_holds later
none_later [] later none = refl
none_later ((k when true) ∷ earlier) later none = absurd (not_both none refl)
none_later ((k when false) ∷ earlier) later none = none_later earlier later none

-- So a call whose earlier checks have passed ends as its later ones say.
pub ends_later : {A : Type 0} (earlier later : List Check) (answer : Answer) (new old left : A) → none_holds earlier ≡ true → Ends later answer new old left
    → Ends (earlier ++ later) answer new old left
ends_later earlier later answer new old left none end =
    record { number = end.number ∙ sym (left_to_later earlier later none); lent = rw (none_later earlier later none) end.lent }

-- And one that an earlier check refuses ends there.
pub ends_earlier : {A : Type 0} (earlier later : List Check) (answer : Answer) (new old : A) → number_of answer ≡ first_of earlier → (number_of answer ≡ 0 → ⊥)
    → Ends (earlier ++ later) answer new old old
ends_earlier earlier later answer new old first other =
    let some : first_of earlier ≡ 0 → ⊥ = λ z. other (first ∙ z) in
    let all : first_of (earlier ++ later) ≡ first_of earlier = refused_earlier earlier later some in
    record { number = first ∙ sym all; lent = rw (some_of_number (earlier ++ later) (λ z. some (sym all ∙ z))) }

-- The two ends of a checked call, over any operation: it is refused and nothing has changed, or it is done.
module _ {A : Type 0} (checks : List Check) (answer : Answer) (first : number_of answer ≡ first_of checks) where
  pub refused : (new old : A) → (number_of answer ≡ 0 → ⊥) → Ends checks answer new old old
  refused new old other = record { number = first; lent = rw (some_of_number checks (λ z. other (first ∙ z))) }

  pub done : (new old left : A) → names 0 checks ≡ false → number_of answer ≡ 0 → left ≡ new → Ends checks answer new old left
  done new old left unnamed zero_is right =
      record { number = first; lent = rw (none_of_zero checks unnamed (sym first ∙ zero_is)) right }

-- Two calls that meet one promise, and do not answer 9, agree in everything.
module _ {A : Type 0} (checks : List Check) (new old : A) (a b : Answer) (x y : A) (p : Ends checks a new old x) (q : Ends checks b new old y) where
  pub same_answer_at_end : names 9 checks ≡ false → a ≡ b
  same_answer_at_end unnamed =
      same_number a b (p.number ∙ sym q.number)
      (λ nine. unnamed_number checks 9 (λ e. absurd (omega (arith, e))) unnamed (sym p.number ∙ nine))

  pub same_lent_at_end : x ≡ y
  same_lent_at_end = p.lent ∙ sym q.lent
