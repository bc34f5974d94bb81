-- A row at N = 1 whose values are put where marks say: each place has A's value of its column, or is as before, and then A has none there.
-- Assumes nothing.
use mathlib.Core.Path.{◌≡◌, refl, sym, ap, ◌∙◌}
use mathlib.Core.List.{List}
use mathlib.Core.Bool.{Bool, true, false, not, cond}
use Prim.Native.Nat.{ℕ, zero, suc, ◌+◌, ◌*◌, ◌≤◌, ◌<◌}
use native.Mathlib.Nat.{le_of_suc-le-suc, eq-or-lt_of_le, not-suc-le-zero}
use mathlib.Core.Logic.{⊎_elim}
use native.Mathlib.Omega.{arith}
use lib.Dec.{eqb}
use lib.ListN.{length, get_or, set, length-set, get_or-append}
use lib.Seq.{get_or-set_same, get_or-set_other, get_or-append-add, ext_get_or}
use lib.Ieee.{Float, Format, nan}
use borrow.Author.Tests.{eqb-true, eqb-false}
use Rattle.base.specs.Iterate.{iterate}
use Rattle.base.proofs.Iterate.{iterate_none, iterate_more, iterate_keeps}
use Rattle.base.proofs.All.{all_at}
use Rattle.blocks.specs.Block.{plus_zero}
use Rattle.blocks.specs.Lent.{block_at}
use Rattle.patterns.specs.Pattern.{once}
use Rattle.rows.specs.Lookup.{no_place, place_in}
use Rattle.rows.proofs.RowLaws.{once_at, absent_at}
use Rattle.rows.proofs.LookupLaws.{Found, found_once, is_found, is_absent}
use Rattle.factors.specs.Copy.{has_place, row_has_places, joined, zero_block, block_or_zero, copied_block, copied_row}
use Rattle.places.specs.Places.{Markable, Marked}
use Rattle.copy_rows.specs.Scatter.{mark_of, Guided, put_marked, Zeros}
use Rattle.copy_rows.proofs.JoinLaws.{length_joined}
use Rattle.copy_rows.proofs.RowLaws.{copied_long}
use Rattle.copy_rows.proofs.OntoLaws.{onto}

-- what holds of the numbers below k and of k
one_more : (P : ℕ → Type 0) (k : ℕ) → ((j : ℕ) → j < k → P j) → P k → (j : ℕ) → j < k + 1 → P j
one_more P k before here j h = ⊎_elim (λ e. rw e here) (λ less. before j less) (eq-or-lt_of_le (le_of_suc-le-suc (omega arith)))

-- lists of one value each, one after the other
joined_one : (m : ℕ) (g : ℕ → List Float) → ((k : ℕ) → k < m → length (g k) ≡ 1) → (q : ℕ) → q < m → get_or (joined m g) q nan ≡ get_or (g q) 0 nan
unfolding joined
joined_one zero g each q h = absurd (not-suc-le-zero h)
joined_one (suc m) g each q h =
    let long : length (joined m g) ≡ m = omega (arith, length_joined 1 m g (λ k l. each k (omega arith))) in
    ⊎_elim
    (λ e. let at : q ≡ length (joined m g) + 0 = omega (arith, e, long) in
    rw at (get_or-append-add (joined m g) (g m) 0 nan) ∙ ap (λ (k : ℕ). get_or (g k) 0 nan) (sym e))
    (λ l. get_or-append (joined m g) (g m) nan q (omega (arith, long)) ∙ joined_one m g (λ k b. each k (omega arith)) q l) (eq-or-lt_of_le (le_of_suc-le-suc h))

-- four values, one after the other
pub put_four_is : (from : List ℕ) (first : ℕ) (values : List Float) (marks : List ℕ) (k : ℕ) (out : List Float) →
    let f = put_marked from first values marks in f (k + 3) (f (k + 2) (f (k + 1) (f k out))) ≡ iterate f k (k + 4) out
put_four_is from first values marks k out =
    let f = put_marked from first values marks in
    let one : iterate f k (k + 1) out ≡ f k out = iterate_more f k k out (omega arith) ∙ ap (f k) (iterate_none f k k out (omega arith)) in
    let two : iterate f k ((k + 1) + 1) out ≡ f (k + 1) (f k out) = iterate_more f k (k + 1) out (omega arith) ∙ ap (f (k + 1)) one in
    let b : (k + 1) + 1 ≡ k + 2 = omega arith in
    let three : iterate f k ((k + 2) + 1) out ≡ f (k + 2) (f (k + 1) (f k out)) = iterate_more f k (k + 2) out (omega arith) ∙ ap (f (k + 2)) (rw b at two) in
    let c : (k + 2) + 1 ≡ k + 3 = omega arith in
    let four : iterate f k ((k + 3) + 1) out ≡ f (k + 3) (f (k + 2) (f (k + 1) (f k out))) = iterate_more f k (k + 3) out (omega arith) ∙ ap (f (k + 3)) (rw c at three) in
    let d : (k + 3) + 1 ≡ k + 4 = omega arith in
    sym (rw d at four)

-- the marks of A's columns in a row of at most 256 columns that was marked: whole places
module _ (row from marks : List ℕ) (fit : Markable row) (single : once from ≡ true) (low : (k : ℕ) → k < length from → get_or from k 0 < 4096)
    (placed : row_has_places row from ≡ true) (marked : Marked row marks) (few : length row ≤ 256) where
  found : (k : ℕ) → k < length from → Found row (get_or from k 0) (place_in row (get_or from k 0))
  unfolding row_has_places has_place
  found k h =
      is_found row (get_or from k 0) _ refl
      (all_at (λ j. not (eqb (place_in row (get_or from j 0)) no_place)) k (length from) placed h)

  exact : (e : ℕ) → e < length row → get_or marks (get_or row e 0) 0 ≡ e
  exact e h = go (marked.each e h).0 (marked.each e h).1
    where
      go : (turns : ℕ) → e ≡ get_or marks (get_or row e 0) 0 + 256 * turns → get_or marks (get_or row e 0) 0 ≡ e
      go zero is = omega (arith, is)
      go (suc turns) is = absurd (omega (arith, is, h, few))

  mark_is : (k : ℕ) → k < length from → (mark_of from marks k < length row) × (get_or row (mark_of from marks k) 0 ≡ get_or from k 0)
  mark_is k h =
      let here = found k h in
      let is : mark_of from marks k ≡ place_in row (get_or from k 0) = ap (λ (v : ℕ). get_or marks v 0) (sym here.there) ∙ exact _ here.below in
      (omega (arith, is, here.below), ap (λ (v : ℕ). get_or row v 0) is ∙ here.there)

  pub guided : Guided from marks (length row)
  guided = record { long = marked.long; low = low; within = λ k h. (mark_is k h).0 }

  apart : (i j : ℕ) → i < j → j < length from → mark_of from marks i ≡ mark_of from marks j → ⊥
  apart i j l h e =
      once_at from i j single l h (sym (mark_is i (omega arith)).1 ∙ ap (λ (v : ℕ). get_or row v 0) e ∙ (mark_is j h).1)

  module _ (f : Format) (first : ℕ) (values old : List Float) (long : length old ≡ length row) (zeros : (length row ≡ length from → ⊥) → Zeros f old (length old)) where
    -- after k values: each of them is at its place, and every other place is as before
    record So (k : ℕ) (out : List Float) : Type 0 where
      same : length out ≡ length row
      put : (j : ℕ) → j < k → get_or out (mark_of from marks j) nan ≡ get_or values (first + j) nan
      left : (q : ℕ) → ((j : ℕ) → j < k → mark_of from marks j ≡ q → ⊥) → get_or out q nan ≡ get_or old q nan

    so_next : (k : ℕ) (out : List Float) → k < length from → So k out → So (k + 1) (put_marked from first values marks k out)
    unfolding put_marked
    so_next k out h so =
        let p : ℕ = mark_of from marks k in
        let v : Float = get_or values (first + k) nan in
        let room : p < length out = omega (arith, so.same, (mark_is k h).0) in
        record {
          same = length-set out p v ∙ so.same;
          put = one_more (λ j. get_or (set out p v) (mark_of from marks j) nan ≡ get_or values (first + j) nan) k
              (λ j l. get_or-set_other out p (mark_of from marks j) v nan (apart j k l h) ∙ so.put j l) (get_or-set_same out p v nan room);
          left = λ q none. get_or-set_other out p q v nan (λ e. none k (omega arith) (sym e)) ∙ so.left q (λ j l. none j (omega arith));
        }

    all_so : So (length from) (iterate (put_marked from first values marks) 0 (length from) old)
    all_so =
        iterate_keeps (put_marked from first values marks) So 0 old (length from) (omega arith)
        (record { same = long; put = λ j h. absurd (omega (arith, h)); left = λ q none. refl }) (λ k t least below. so_next k t below)

    abbrev done : List Float
    done = iterate (put_marked from first values marks) 0 (length from) old

    -- a place whose column A's row has
    has_value : (q j : ℕ) → q < length row → j < length from → get_or from j 0 ≡ get_or row q 0 → get_or done q nan ≡ get_or values (first + j) nan
    has_value q j h l e =
        let there = mark_is j l in
        let here : mark_of from marks j ≡ q =
        sym (found_once row (get_or row q 0) (mark_of from marks j) fit.single there.0 (there.1 ∙ e)) ∙ found_once row (get_or row q 0) q fit.single h refl in
        ap (λ (p : ℕ). get_or done p nan) (sym here) ∙ all_so.put j l

    -- one whose column it does not have: then the rows differ in length
    has_none : (q : ℕ) → q < length row → ((j : ℕ) → j < length from → get_or from j 0 ≡ get_or row q 0 → ⊥) → get_or done q nan ≡ plus_zero f
    has_none q h none = all_so.left q other ∙ go (eqb (length row) (length from)) refl
      where
        other : (j : ℕ) → j < length from → mark_of from marks j ≡ q → ⊥
        other j l e = none j l (sym (mark_is j l).1 ∙ ap (λ (p : ℕ). get_or row p 0) e)

        go : (b : Bool) → eqb (length row) (length from) ≡ b → get_or old q nan ≡ plus_zero f
        go false is = zeros (eqb-false (length row) (length from) is) q (omega (arith, long))
        go true is =
            let full : length row ≡ length from = eqb-true (length row) (length from) is in
            let k = onto (length from) (mark_of from marks) (λ i l. omega (arith, (mark_is i l).0, full)) apart q (omega (arith, full)) in
            absurd (other k.0 k.1 k.2)

    value_at_lem : (q : ℕ) → q < length row → length from ≤ 65535 → get_or done q nan ≡ get_or (copied_block f 1 from first values (get_or row q 0)) 0 nan
    unfolding copied_block block_or_zero
    value_at_lem q h short = go (place_in from (get_or row q 0)) refl (eqb (place_in from (get_or row q 0)) no_place) refl
      where
        go : (place : ℕ) → place_in from (get_or row q 0) ≡ place
            → (b : Bool) → eqb place no_place ≡ b → get_or done q nan ≡ get_or (cond b (zero_block f 1) (block_at 1 values (first + place))) 0 nan
        go place at true is = has_none q h (λ j l e. absent_at from (get_or row q 0) (length from) j (is_absent from (get_or row q 0) place short at (ap not is)) l e)
        go place at false is =
            let there = is_found from (get_or row q 0) place at (ap not is) in
            let here : first + place ≡ 1 * 1 * (first + place) + 0 = omega arith in
            has_value q place h there.below there.there ∙ ap (λ (p : ℕ). get_or values p nan) here

    pub scattered : length from ≤ 65535 → done ≡ copied_row f 1 from first values row
    unfolding copied_row
    scattered short =
        let g : ℕ → List Float = λ k. copied_block f 1 from first values (get_or row k 0) in
        let each : (k : ℕ) → k < length row → length (g k) ≡ 1 = λ k h. copied_long f 1 from first values (get_or row k 0) in
        ext_get_or nan done (joined (length row) g) (omega (arith, all_so.same, length_joined 1 (length row) g each))
        (λ q h. let inside : q < length row = omega (arith, h, all_so.same) in
        value_at_lem q inside short ∙ sym (joined_one (length row) g each q inside))

-- one value more, and four, where the code has read the marks
module _ (from : List ℕ) (first : ℕ) (values : List Float) (marks : List ℕ) where
  pub put_more : (start k p : ℕ) (old out : List Float) → start ≤ k → p ≡ mark_of from marks k → out ≡ iterate (put_marked from first values marks) start k old
      → set out p (get_or values (first + k) nan) ≡ iterate (put_marked from first values marks) start (k + 1) old
  unfolding put_marked
  put_more start k p old out h is so =
      let f = put_marked from first values marks in
      rw is (ap (f k) so ∙ sym (iterate_more f start k old h))

  pub put_four_more : (k p q r s : ℕ) (out : List Float) → p ≡ mark_of from marks k → q ≡ mark_of from marks (k + 1) → r ≡ mark_of from marks (k + 2) → s ≡ mark_of from marks (k + 3)
      → set (set (set (set out p (get_or values (first + k) nan)) q (get_or values (first + (k + 1)) nan)) r (get_or values (first + (k + 2)) nan)) s (get_or values (first + (k + 3)) nan)
      ≡ iterate (put_marked from first values marks) k (k + 4) out
  unfolding put_marked
  put_four_more k p q r s out e0 e1 e2 e3 = rw (e0, e1, e2, e3) (put_four_is from first values marks k out)

-- one +0 more
pub zeros_more : (f : Format) (out : List Float) (q : ℕ) → q < length out → Zeros f out q → Zeros f (set out q (plus_zero f)) (q + 1)
zeros_more f out q h old =
    one_more (λ j. get_or (set out q (plus_zero f)) j nan ≡ plus_zero f) q (λ j l. get_or-set_other out q j (plus_zero f) nan (λ e. omega (arith, e, l)) ∙ old j l)
    (get_or-set_same out q (plus_zero f) nan h)

-- values that are put leave the length
pub sets_long : (out : List Float) (p q r : ℕ) (x y z : Float) → (length (set out p x) ≡ length out) × (length (set (set out p x) q y) ≡ length out)
    × (length (set (set (set out p x) q y) r z) ≡ length out)
sets_long out p q r x y z =
    let one = length-set out p x in
    let two = length-set (set out p x) q y ∙ one in
    (one, two, length-set (set (set out p x) q y) r z ∙ two)

-- values that keep their length are guided still
pub guided_same : {from marks : List ℕ} {out z : ℕ} → z ≡ out → Guided from marks out → Guided from marks z
guided_same e guide = record { long = guide.long; low = guide.low; within = λ k h. omega (arith, e, guide.within k h) }
