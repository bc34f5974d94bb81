-- Stamps: cleared, given to the columns of a row one after the other, and taken away by those of another row.
-- Assumes nothing.
use mathlib.Core.Path.{◌≡◌, refl, sym, ap, ◌∙◌}
use mathlib.Core.Logic.{⊎_elim}
use mathlib.Core.List.{List}
use mathlib.Core.Bool.{Bool, true, false, cond}
use Prim.Native.Nat.{ℕ, ◌+◌, ◌≤◌, ◌<◌}
use native.Mathlib.Nat.{le_of_suc-le-suc, eq-or-lt_of_le}
use native.Mathlib.Omega.{arith}
use lib.Dec.{eqb}
use lib.ListN.{length, get_or, set, length-set}
use lib.Seq.{get_or-set_same, get_or-set_other}
use borrow.Author.Tests.{eqb-true, eqb-false}
use Rattle.patterns.specs.Marks.{Below}
use Rattle.copy_check.specs.Stamps.{Holds, Only, Taken, Takes, Placed}

-- a test that fails shows nothing
pub unsure : {A : Type 0} → false ≡ true → A
unsure e = absurd (omega (arith, ap {B = ℕ} (λ (b : Bool). cond b 1 0) e))

-- what holds of the numbers below k and of k
pub one_more : (P : ℕ → Type 0) (k : ℕ) → ((j : ℕ) → j < k → P j) → P k → (j : ℕ) → j < k + 1 → P j
one_more P k before here j h = ⊎_elim (λ e. rw e here) (λ less. before j less) (eq-or-lt_of_le (le_of_suc-le-suc (omega arith)))

-- a mark after a mark was written: the one written, or as before
pub written : (P : ℕ → Type 0) (marks : List ℕ) (c x v : ℕ) → c < length marks → (v ≡ c → P x) → ((v ≡ c → ⊥) → P (get_or marks v 0)) → P (get_or (set marks c x) v 0)
written P marks c x v room here there = go (eqb v c) refl
  where
    go : (b : Bool) → eqb v c ≡ b → P (get_or (set marks c x) v 0)
    go true is = let e = eqb-true v c is in rw (e, get_or-set_same marks c x 0 room) (here e)
    go false is = let e = eqb-false v c is in rw (get_or-set_other marks c v x 0 e) (there e)

-- A row's stamps: none at first, and one more.
pub only_none : (stamp : ℕ) (row marks : List ℕ) → Below stamp marks → Only stamp row marks
only_none stamp row marks below v e = absurd (omega (arith, below.low v, e))

pub only_more : (stamp : ℕ) (row marks : List ℕ) (c k : ℕ) → k < length row → get_or row k 0 ≡ c → c < length marks → Only stamp row marks → Only stamp row (set marks c stamp)
only_more stamp row marks c k h is room old v =
    written (λ x. x ≡ stamp → Holds row v) marks c stamp v room (λ e s. (k, h, is ∙ sym e)) (λ other s. old v s)

-- a mark that is written does not rise above the bound
pub below_more : (bound : ℕ) (marks : List ℕ) (c x : ℕ) → c < 4096 → x < bound → Below bound marks → Below bound (set marks c x)
below_more bound marks c x room small old =
    record { long = length-set marks c x ∙ old.long; low = λ v. written (λ y. y < bound) marks c x v (omega (arith, old.long)) (λ e. small) (λ other. old.low v) }

-- what was below a number is below the next
pub below_next : (bound : ℕ) (marks : List ℕ) → Below bound marks → Below (bound + 1) marks
below_next bound marks old = record { long = old.long; low = λ v. omega (arith, old.low v) }

-- Stamps that are taken: none yet, one more, and those of a whole row.
pub take_none : (stamp : ℕ) (row from marks : List ℕ) → Below (stamp + 1) marks → Only stamp row marks → Taken stamp row from marks 0
take_none stamp row from marks below only =
    record { below = below; only = only; gone = λ j h. absurd (omega (arith, h)); held = λ j h. absurd (omega (arith, h)); apart = λ i j l h. absurd (omega (arith, h)) }

module _ (stamp : ℕ) (row from marks : List ℕ) (k c : ℕ) (some : 1 ≤ stamp) (is : c ≡ get_or from k 0) (small : c < 4096) (had : get_or marks c 0 ≡ stamp) (old : Taken stamp row from marks k) where
  room : c < length marks
  room = omega (arith, old.below.long, small)

  -- none of those before it is the column: their stamps are gone
  new : (j : ℕ) → j < k → get_or from j 0 ≡ get_or from k 0 → ⊥
  new j h e = old.gone j h (ap (λ (v : ℕ). get_or marks v 0) (e ∙ sym is) ∙ had)

  pub take_more : Taken stamp row from (set marks c 0) (k + 1)
  take_more =
      record {
        below = below_more (stamp + 1) marks c 0 small (omega arith) old.below;
        only = λ v. written (λ x. x ≡ stamp → Holds row v) marks c 0 v room (λ e s. absurd (omega (arith, s, some))) (λ other s. old.only v s);
        gone = λ j h.
            written (λ x. x ≡ stamp → ⊥) marks c 0 (get_or from j 0) room (λ e s. omega (arith, s, some))
            (λ other. one_more (λ i. (get_or from i 0 ≡ c → ⊥) → get_or marks (get_or from i 0) 0 ≡ stamp → ⊥) k (λ i l _. old.gone i l) (λ differs. absurd (differs (sym is))) j h other);
        held = one_more (λ j. Holds row (get_or from j 0)) k old.held (rw (← is) (old.only c had));
        apart = λ i j l h.
            one_more (λ n. (i : ℕ) → i < n → get_or from i 0 ≡ get_or from n 0 → ⊥) k (λ n b i' l'. old.apart i' n l' b) (λ i' l'. new i' l') j h i l;
      }

pub placed_of : (stamp : ℕ) (row from marks : List ℕ) → Taken stamp row from marks (length from) → Placed row from
placed_of stamp row from marks all = record { held = all.held; apart = all.apart }

-- after one part another goes on
pub takes_on : {stamp : ℕ} {from : List ℕ} {i j k : ℕ} {a b c : List ℕ} → Takes stamp from i j a b → Takes stamp from j k b c → Takes stamp from i k a c
takes_on first then row old = then row (first row old)

pub takes_to : {stamp : ℕ} {from : List ℕ} {i j k : ℕ} {a b : List ℕ} → j ≡ k → Takes stamp from i j a b → Takes stamp from i k a b
takes_to same takes = rw same at takes
