-- The promise of a solve on its two ways out, and that it fixes the answer and every lent word.
-- Assumes nothing.
use mathlib.Core.Path.{◌≡◌, refl, sym, ap, ◌∙◌}
use mathlib.Core.List.{List}
use mathlib.Core.Bool.{false}
use mathlib.Core.Option.{Option, none, some}
use Prim.Native.Nat.{ℕ}
use native.Mathlib.Omega.{arith}
use Rattle.std.specs.Prelude.{Ok, Err}
use Rattle.answers.specs.Numbers.{Answer, AnswerOf}
use Rattle.answers.specs.declared.Refusal.{Refusal}
use Rattle.answers.specs.declared.Refusal.TheVariants.{Size}
use Rattle.answers.specs.Numbers.{number_of, refusal_number}
use Rattle.answers.specs.Checks.{Check, first_of}
use Rattle.answers.specs.Promise.{names}
use Rattle.answers.proofs.EndLaws.{none_of_zero, some_of_number, unnamed_number}
use Rattle.answers.proofs.SameAnswer.{same_number, refusal_counts}
use Rattle.solvers.specs.declared.Solution.{Solution}
use Rattle.solvers.specs.Method.{Run}
use Rattle.solvers.specs.Promise.{solve_values, Lent, left_by, Solves}

module _ (checks : List Check) (t : Run) (solution : Solution) (old : Lent) where
  pub ended : names 0 checks ≡ false → 0 ≡ first_of checks → (found : Solution) → found ≡ solution → (left : Lent) → left ≡ left_by t old.history
      → Solves checks t solution (Ok found) old left
  ended unnamed zero_is found right left lent_same =
      let passed = none_of_zero checks unnamed (sym zero_is) in
      record { number = zero_is; values = rw (passed, right); lent = rw passed lent_same }

  pub refused_solve : (result : AnswerOf Solution) (why : Refusal) → result ≡ Err why → refusal_number why ≡ first_of checks → Solves checks t solution result old old
  refused_solve result why is number_is =
      let some_holds = some_of_number checks (λ z. refusal_counts why (number_is ∙ z)) in
      record { number = ap number_of is ∙ number_is; values = ap solve_values is ∙ rw some_holds; lent = rw some_holds }

-- two answers with one number, not 9, and the same values are one
abbrev solution_or : Solution → Option Solution → Solution
solution_or other none = other
solution_or other (some solution) = solution

abbrev refusal_of : Answer → Refusal
refusal_of (Ok tt) = Size
refusal_of (Err why) = why

pub same_solve : (a b : AnswerOf Solution) → number_of a ≡ number_of b → (number_of a ≡ 9 → ⊥) → solve_values a ≡ solve_values b → a ≡ b
same_solve (Ok x) (Ok y) number other values = ap (λ (v : Option Solution). Ok (solution_or x v)) values
same_solve (Ok x) (Err why) number other values = absurd (refusal_counts why (sym number))
same_solve (Err why) (Ok y) number other values = absurd (refusal_counts why number)
same_solve (Err why) (Err also) number other values =
    ap (λ (a : Answer). Err (refusal_of a)) (same_number (Err why) (Err also) number other)

-- two solves that meet one promise, and are not refused by 9, agree in everything
pub agree : (checks : List Check) (t : Run) (solution : Solution) (a b : AnswerOf Solution) (old x y : Lent) → names 9 checks ≡ false
    → Solves checks t solution a old x → Solves checks t solution b old y → (a ≡ b) × (x ≡ y)
agree checks t solution a b old x y unnamed p q = (
  same_solve a b (p.number ∙ sym q.number) (λ nine. unnamed_number checks 9 (λ e. absurd (omega (arith, e))) unnamed (sym p.number ∙ nine))
      (p.values ∙ sym q.values),
  p.lent ∙ sym q.lent,
)
