-- An answer is fixed by its number and its values, so that a promise on those fixes the whole answer.
-- Assumes nothing.
use mathlib.Core.Path.{◌≡◌, refl, sym, ap, ◌∙◌}
use mathlib.Core.List.{List, [], ◌∷◌}
use mathlib.Core.Bool.{true, false, cond}
use Rattle.std.proofs.lemmas.Bool.{false≢true}
use Rattle.std.specs.Prelude.{is_ok, is_err}
use Prim.Native.Nat.{ℕ}
use lib.ListN.{get_or}
use lib.Dec.{eqb}
use native.Mathlib.Omega.{arith}
use Rattle.std.specs.Prelude.{Ok, Err}
use Rattle.answers.specs.Numbers.{Answer, AnswerOf}
use Rattle.answers.specs.declared.Refusal.TheVariants.{Size, Limit, Shape, Pattern, Split, Node, NoEntry, NoPlace, Level, Room, Singular}
use Rattle.answers.specs.declared.Refusal.{Refusal}
use Rattle.answers.specs.Numbers.{number_of, refusal_number, values_of}

-- the answer that has a number and values
abbrev answer_with : ℕ → List ℕ → Answer
answer_with number values =
    cond (eqb number 0) (Ok tt)
    (cond (eqb number 1) (Err Size)
    (cond (eqb number 10) (Err Limit)
    (cond (eqb number 2) (Err Shape)
    (cond (eqb number 3) (Err Pattern)
    (cond (eqb number 11) (Err Split)
    (cond (eqb number 6) (Err Node)
    (cond (eqb number 7) (Err NoEntry)
    (cond (eqb number 8) (Err NoPlace)
    (cond (eqb number 5) (Err Level)
    (cond (eqb number 4) (Err Room)
    (Err (Singular (get_or values 0 0)))))))))))))

recovered : (a : Answer) → answer_with (number_of a) (values_of a) ≡ a
recovered (Ok tt) = refl
recovered (Err Size) = refl
recovered (Err Limit) = refl
recovered (Err Shape) = refl
recovered (Err Pattern) = refl
recovered (Err Split) = refl
recovered (Err Node) = refl
recovered (Err NoEntry) = refl
recovered (Err NoPlace) = refl
recovered (Err Level) = refl
recovered (Err Room) = refl
recovered (Err (Singular row)) = refl

pub same_answer : (a b : Answer) → number_of a ≡ number_of b → values_of a ≡ values_of b → a ≡ b
same_answer a b number values =
    sym (recovered a) ∙ ap (answer_with (number_of a)) values ∙ ap (λ (n : ℕ). answer_with n (values_of b)) number ∙ recovered b

-- a refusal's number is not 0
pub refusal_counts : (why : Refusal) → refusal_number why ≡ 0 → ⊥
refusal_counts Size e = absurd (omega (arith, e))
refusal_counts Limit e = absurd (omega (arith, e))
refusal_counts Shape e = absurd (omega (arith, e))
refusal_counts Pattern e = absurd (omega (arith, e))
refusal_counts Split e = absurd (omega (arith, e))
refusal_counts Node e = absurd (omega (arith, e))
refusal_counts NoEntry e = absurd (omega (arith, e))
refusal_counts NoPlace e = absurd (omega (arith, e))
refusal_counts Level e = absurd (omega (arith, e))
refusal_counts Room e = absurd (omega (arith, e))
refusal_counts (Singular row) e = absurd (omega (arith, e))

-- Only 9 carries a value, so that any other answer is fixed by its number alone.
no_values : (a : Answer) → (number_of a ≡ 9 → ⊥) → values_of a ≡ []
no_values (Ok tt) other = refl
no_values (Err Size) other = refl
no_values (Err Limit) other = refl
no_values (Err Shape) other = refl
no_values (Err Pattern) other = refl
no_values (Err Split) other = refl
no_values (Err Node) other = refl
no_values (Err NoEntry) other = refl
no_values (Err NoPlace) other = refl
no_values (Err Level) other = refl
no_values (Err Room) other = refl
no_values (Err (Singular row)) other = absurd (other refl)

pub same_number : (a b : Answer) → number_of a ≡ number_of b → (number_of a ≡ 9 → ⊥) → a ≡ b
same_number a b number other = same_answer a b number (no_values a other ∙ sym (no_values b (λ nine. other (number ∙ nine))))

-- What `?` passes up has the number of the refusal that it was given, and that is not 0.
pub record PassedUp {A : Type 0} (answer : AnswerOf A) (found : ℕ) : Type 0 where
  pub number : number_of answer ≡ found
  pub counts : number_of answer ≡ 0 → ⊥

pub passed_up : {A : Type 0} {answer : AnswerOf A} {why : Refusal} {found : ℕ} → answer ≡ Err why → refusal_number why ≡ found → PassedUp answer found
passed_up {why = why} is number =
    record { number = ap number_of is ∙ number; counts = λ z. refusal_counts why (sym (ap number_of is) ∙ z) }

-- An answer that is an error has a number, and any other has none.
pub err_counts : {A : Type 0} (answer : AnswerOf A) → is_err answer ≡ true → number_of answer ≡ 0 → ⊥
err_counts (Ok found) e zero_is = false≢true e
err_counts (Err why) e zero_is = refusal_counts why zero_is

pub ok_is_zero : {A : Type 0} (answer : AnswerOf A) → is_err answer ≡ false → number_of answer ≡ 0
ok_is_zero (Ok found) e = refl
ok_is_zero (Err why) e = absurd (false≢true (sym e))

pub ok_has_none : {A : Type 0} (answer : AnswerOf A) → is_ok answer ≡ true → number_of answer ≡ 0
ok_has_none (Ok found) e = refl
ok_has_none (Err why) e = absurd (false≢true e)
