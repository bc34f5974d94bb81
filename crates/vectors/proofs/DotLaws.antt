-- What a dot product answers, on its two ways out, and that its promise fixes the answer.
-- Assumes nothing.
use mathlib.Core.Path.{◌≡◌, refl, sym, ap, ◌∙◌}
use mathlib.Core.List.{List, [], ◌∷◌}
use mathlib.Core.Bool.{false}
use Prim.Native.Nat.{ℕ}
use native.Mathlib.Omega.{arith}
use lib.ListN.{length, get_or}
use lib.Ieee.{Float, nan}
use Rattle.std.specs.Prelude.{Ok, Err}
use Rattle.answers.specs.Numbers.{Answer, AnswerOf}
use Rattle.answers.specs.declared.Refusal.{Refusal}
use Rattle.answers.specs.declared.Refusal.TheVariants.{Size, Limit, Shape, Pattern, Split, Node, NoEntry, NoPlace, Level, Room, Singular}
use Rattle.answers.specs.Numbers.{number_of, refusal_number, refusal_values}
use Rattle.answers.specs.Checks.{Check, first_of}
use Rattle.answers.specs.Promise.{names}
use Rattle.answers.proofs.EndLaws.{none_of_zero, some_of_number, unnamed_number}
use Rattle.answers.proofs.SameAnswer.{same_answer, refusal_counts}
use Rattle.vectors.specs.DotAnswers.{dot_values, Dotted}

-- a refusal carries nothing unless it is 9
plain : (why : Refusal) → (refusal_number why ≡ 9 → ⊥) → refusal_values why ≡ []
plain Size other = refl
plain Limit other = refl
plain Shape other = refl
plain Pattern other = refl
plain Split other = refl
plain Node other = refl
plain NoEntry other = refl
plain NoPlace other = refl
plain Level other = refl
plain Room other = refl
plain (Singular row) other = absurd (other refl)

module _ (checks : List Check) (sum : Float) where
  pub summed : names 0 checks ≡ false → 0 ≡ first_of checks → (x : Float) → x ≡ sum → Dotted checks sum (Ok x)
  summed unnamed zero_is x right = record { number = zero_is; values = rw (none_of_zero checks unnamed (sym zero_is), right) }

  pub refused_dot : names 9 checks ≡ false → (result : AnswerOf Float) (why : Refusal) → result ≡ Err why → refusal_number why ≡ first_of checks
      → Dotted checks sum result
  refused_dot unnamed result why is number_is =
      let nothing = plain why (λ nine. unnamed_number checks 9 (λ e. absurd (omega (arith, e))) unnamed (sym number_is ∙ nine)) in
      record {
        number = ap number_of is ∙ number_is;
        values = ap dot_values is ∙ rw (some_of_number checks (λ z. refusal_counts why (number_is ∙ z)), nothing);
      }

-- two answers with one number and the same values are one
abbrev refusal_of : Answer → Refusal
refusal_of (Ok tt) = Size
refusal_of (Err why) = why

abbrev value_of : List Float × List ℕ → Float
value_of values = get_or values.0 0 nan

unlike : (x : Float) (l : List ℕ) → ◌≡◌ {A = List Float × List ℕ} (x ∷ [], []) ([], l) → ⊥
unlike x l e =
    let z : ◌≡◌ {A = ℕ} 1 0 = ap (λ (v : List Float × List ℕ). length v.0) e in
    absurd (omega arith)

pub same_dot : (a b : AnswerOf Float) → number_of a ≡ number_of b → dot_values a ≡ dot_values b → a ≡ b
same_dot (Ok x) (Ok y) number values = ap (λ (v : List Float × List ℕ). Ok (value_of v)) values
same_dot (Ok x) (Err why) number values = absurd (unlike x (refusal_values why) values)
same_dot (Err why) (Ok y) number values = absurd (unlike y (refusal_values why) (sym values))
same_dot (Err why) (Err other) number values =
    ap (λ (a : Answer). Err (refusal_of a))
    (same_answer (Err why) (Err other) number (ap (λ (v : List Float × List ℕ). v.1) values))

-- two results that meet the promise agree
pub same_dotted : (checks : List Check) (sum : Float) (a b : AnswerOf Float) → Dotted checks sum a → Dotted checks sum b → a ≡ b
same_dotted checks sum a b p q = same_dot a b (p.number ∙ sym q.number) (p.values ∙ sym q.values)
