-- What an outcome is of: an answer without a row has row 0, a slice lent twice is checked once, and a promise fixes what it is made of.
-- Assumes nothing.
use mathlib.Core.Path.{◌≡◌, refl, sym, ap, ◌∙◌}
use mathlib.Core.List.{List, [], ◌∷◌}
use mathlib.Core.Bool.{Bool, true, false, not, ◌||◌, cond}
use Prim.Native.Nat.{ℕ, ◌*◌}
use native.Mathlib.Omega.{arith}
use lib.Dec.{eqb}
use lib.Ieee.{Float, Format}
use Rattle.std.specs.Prelude.{Ok, Err}
use Rattle.answers.specs.Numbers.{Answer}
use Rattle.answers.specs.declared.Refusal.TheVariants.{Size, Limit, Shape, Pattern, Split, Node, NoEntry, NoPlace, Level, Room, Singular}
use Rattle.answers.specs.Numbers.{number_of, row_of}
use Rattle.answers.specs.Checks.{Check, first_of, ◌when◌}
use Rattle.answers.specs.Limits.{outside_of, rows_out_of_range, wrong_length, vector_checks}
use Rattle.wire.specs.Bytes.{bytes_of, bytes_each}
use Rattle.outcomes.specs.Calls.{Lent, ◌bytes_for◌, wrong_bytes, misshapen, Answered, Checked}
use Rattle.outcomes.specs.declared.Outcome.{Outcome}

-- only 9 carries a row
pub no_row : (a : Answer) → (number_of a ≡ 9 → ⊥) → row_of a ≡ 0
no_row (Ok tt) other = refl
no_row (Err Size) other = refl
no_row (Err Limit) other = refl
no_row (Err Shape) other = refl
no_row (Err Pattern) other = refl
no_row (Err Split) other = refl
no_row (Err Node) other = refl
no_row (Err NoEntry) other = refl
no_row (Err NoPlace) other = refl
no_row (Err Level) other = refl
no_row (Err Room) other = refl
no_row (Err (Singular row)) other = absurd (other refl)

-- neither of the checks of a vector has the number 9
not_nine : (a b : Bool) → first_of ((1 when a) ∷ (2 when b) ∷ []) ≡ 9 → ⊥
not_nine true b e = omega (arith, e)
not_nine false true e = omega (arith, e)
not_nine false false e = omega (arith, e)

pub checked : (n dim length : ℕ) (a : Answer) (r : Outcome) → number_of a ≡ first_of (vector_checks n dim length) → r.number ≡ number_of a → r.row ≡ row_of a
    → Checked (vector_checks n dim length) r
checked n dim length a r first number row =
    record {
      number = number ∙ first;
      row = row ∙ no_row a (λ nine. not_nine (rows_out_of_range n) (wrong_length n dim length) (sym first ∙ nine));
    }

pub same_outcome : (r q : Outcome) → r.number ≡ q.number → r.row ≡ q.row → r ≡ q
same_outcome r q number row =
    ap (λ (n : ℕ). made n r.row) number ∙ ap (made q.number) row
  where
    made : ℕ → ℕ → Outcome
    made n k = record { number = n; row = k }

pub same_checked : (checks : List Check) (r q : Outcome) → Checked checks r → Checked checks q → r ≡ q
same_checked checks r q a b = same_outcome r q (a.number ∙ sym b.number) (a.row ∙ sym b.row)

-- ---- the two ways out of an entry point on bytes

module _ (f : Format) (dim : ℕ) (lent : List Lent) (later : List Check) (result : List Float) (old : List ℕ) where
  pub refused : (r : Outcome) → misshapen f dim lent ≡ true → r.number ≡ 2 → r.row ≡ 0 → Answered f dim lent later result old old r
  refused r wrong number row = record { number = rw wrong number; row = row; left = rw wrong }

  pub answered : (new : List ℕ) (r : Outcome) (a : Answer) → misshapen f dim lent ≡ false → number_of a ≡ first_of later → row_of a ≡ 0 → new ≡ bytes_of f result
      → r.number ≡ number_of a → r.row ≡ row_of a → Answered f dim lent later result old new r
  answered new r a fine first none left number row =
      record { number = rw fine (number ∙ first); row = row ∙ none; left = rw fine left }

  -- two outcomes that meet the promise are the same, and so are the bytes
  pub same_answered : (u v : List ℕ) (r q : Outcome) → Answered f dim lent later result old u r → Answered f dim lent later result old v q → (r ≡ q) × (u ≡ v)
  same_answered u v r q a b = (same_outcome r q (a.number ∙ sym b.number) (a.row ∙ sym b.row), a.left ∙ sym b.left)

-- a slice that is lent twice is checked once
pub once : (f : Format) (dim : ℕ) (bytes values : ℕ) (lent : List Lent) (later : List Check) (result : List Float) (old new : List ℕ) (r : Outcome)
    → Answered f dim ((bytes bytes_for values) ∷ (bytes bytes_for values) ∷ lent) later result old new r
    → Answered f dim ((bytes bytes_for values) ∷ lent) later result old new r
once f dim bytes values lent later result old new r given =
    let wrong = not (eqb bytes (bytes_each f * values)) in
    let e : misshapen f dim ((bytes bytes_for values) ∷ (bytes bytes_for values) ∷ lent) ≡ misshapen f dim ((bytes bytes_for values) ∷ lent) =
    ap (λ (t : Bool). outside_of 1 3 dim || t) (twice wrong (wrong_bytes f lent)) in
    record {
      number = given.number ∙ ap (λ (t : Bool). first_of ((2 when t) ∷ later)) e;
      row = given.row;
      left = given.left ∙ ap (λ (t : Bool). cond t old (bytes_of f result)) e;
    }
  where
    twice : (a b : Bool) → a || (a || b) ≡ a || b
    twice true b = refl
    twice false b = refl
