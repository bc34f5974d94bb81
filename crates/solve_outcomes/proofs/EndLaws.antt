-- The ends of a solve with N as a number: refused before its own checks, or as these say. And its promise fixes all of it.
-- Assumes nothing.
use mathlib.Core.Path.{◌≡◌, refl, sym, ap, ◌∙◌}
use mathlib.Core.List.{List, [], ◌∷◌, ◌++◌}
use mathlib.Core.Bool.{Bool, true, false, cond}
use Prim.Native.Nat.{ℕ}
use native.Mathlib.Omega.{arith}
use Rattle.std.specs.Prelude.{Err}
use Rattle.answers.specs.Numbers.{AnswerOf}
use Rattle.answers.specs.declared.Refusal.{Refusal}
use Rattle.answers.specs.Numbers.{refusal_number}
use Rattle.answers.specs.Checks.{Check, ◌when◌, first_of, none_holds}
use Rattle.answers.specs.Promise.{names}
use Rattle.answers.proofs.EndLaws.{left_to_later, refused_earlier, some_of_number, unnamed_number}
use Rattle.solvers.specs.declared.Solution.{Solution}
use Rattle.solvers.specs.Promise.{Lent, Solves, left_by}
use Rattle.solvers.specs.Method.{Run}
use Rattle.solvers.proofs.SolveLaws.{same_solve}
use Rattle.solve_outcomes.specs.Ends.{SolveEnds}

-- ---- at an N in range the call's own checks of its sizes and of its limit, which come first, may as well come twice

module _ {A : Type 0} (later : List Check) (solution : Solution) (result : AnswerOf Solution) (new old left : A) where
  pub solve_twice : (large far : Bool) → SolveEnds ((1 when large) ∷ (10 when far) ∷ later) solution result new old left
      → SolveEnds ((1 when large) ∷ (10 when far) ∷ (2 when false) ∷ (1 when large) ∷ (10 when far) ∷ later) solution result new old left
  solve_twice true far end = record { number = end.number; values = end.values; lent = end.lent }
  solve_twice false true end = record { number = end.number; values = end.values; lent = end.lent }
  solve_twice false false end = record { number = end.number; values = end.values; lent = end.lent }

-- the promise of a call at 1, 2 or 3
pub as_solved : (checks : List Check) (t : Run) (solution : Solution) (result : AnswerOf Solution) (old left : Lent) → Solves checks t solution result old left
    → SolveEnds {A = Lent} checks solution result (left_by t old.history) old left
as_solved checks t solution result old left end = record { number = end.number; values = end.values; lent = end.lent }

-- ---- checks that come one after the other

not_both : {b : Bool} → b ≡ true → b ≡ false → ⊥
not_both p q = let z : ◌≡◌ {A = ℕ} 1 0 = ap (λ (b : Bool). cond b 1 0) (sym p ∙ q) in absurd (omega arith)

pub later_alone : (earlier later : List Check) → none_holds earlier ≡ true → none_holds (earlier ++ later) ≡ none_holds later
later_alone [] later passed = refl
later_alone ((k when true) ∷ earlier) later passed = absurd (not_both passed refl)
later_alone ((k when false) ∷ earlier) later passed = later_alone earlier later passed

module _ {A : Type 0} (earlier later : List Check) (solution : Solution) (result : AnswerOf Solution) (new old left : A) (passed : none_holds earlier ≡ true) where
  pub solve_later : SolveEnds later solution result new old left → SolveEnds (earlier ++ later) solution result new old left
  solve_later end =
      record {
        number = end.number ∙ sym (left_to_later earlier later passed);
        values = rw (later_alone earlier later passed) end.values;
        lent = rw (later_alone earlier later passed) end.lent;
      }

  pub solve_alone : SolveEnds (earlier ++ later) solution result new old left → SolveEnds later solution result new old left
  solve_alone end =
      record {
        number = end.number ∙ left_to_later earlier later passed;
        values = rw (later_alone earlier later passed) at end.values;
        lent = rw (later_alone earlier later passed) at end.lent;
      }

-- and one that an earlier check refuses ends there
pub solve_earlier : {A : Type 0} (earlier later : List Check) (solution : Solution) (why : Refusal) (new old : A) → refusal_number why ≡ first_of earlier
    → (first_of earlier ≡ 0 → ⊥) → SolveEnds (earlier ++ later) solution (Err why) new old old
solve_earlier earlier later solution why new old first some =
    let all : first_of (earlier ++ later) ≡ first_of earlier = refused_earlier earlier later some in
    let held = some_of_number (earlier ++ later) (λ z. some (sym all ∙ z)) in
    record { number = first ∙ sym all; values = rw held; lent = rw held }

-- two solves that meet one promise, and are not refused by 9, agree in everything
pub same_end : {A : Type 0} (checks : List Check) (solution : Solution) (a b : AnswerOf Solution) (new old x y : A) → names 9 checks ≡ false
    → SolveEnds checks solution a new old x → SolveEnds checks solution b new old y → (a ≡ b) × (x ≡ y)
same_end checks solution a b new old x y unnamed p q = (
  same_solve a b (p.number ∙ sym q.number) (λ nine. unnamed_number checks 9 (λ e. absurd (omega (arith, e))) unnamed (sym p.number ∙ nine))
      (p.values ∙ sym q.values),
  p.lent ∙ sym q.lent,
)
