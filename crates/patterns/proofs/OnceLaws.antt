-- What marking a row finds: whether its columns differ, from each other and from those that were marked before.
-- Assumes nothing.
use mathlib.Core.Path.{◌≡◌, refl, sym, ap, ◌∙◌}
use mathlib.Core.List.{List, ◌∷◌}
use mathlib.Core.Bool.{Bool, true, false, not, ◌&&◌}
use Prim.Native.Nat.{ℕ, zero, suc, ◌+◌, ◌≤◌, ◌<◌}
use native.Mathlib.Nat.{not-suc-le-zero}
use native.Mathlib.Numerals.{add-one}
use native.Mathlib.Omega.{arith}
use native.Mathlib.Decide.{ℕ_discrete}
use lib.ListN.{length, get_or, set, drop, length-set, drop_of_length-le}
use lib.Seq.{drop-cons, get_or-set_same, get_or-set_other}
use lib.Dec.{eqb}
use borrow.Author.Tests.{eq-eqb, ne_eqb}
use Rattle.base.specs.All.{all_to}
use Rattle.base.proofs.All.{all_more, all_stop, false_right}
use Rattle.patterns.specs.Pattern.{absent_to, once, own_absent}
use Rattle.patterns.specs.Marks.{is_fresh, all_fresh}
use Rattle.patterns.proofs.TestLaws.{and_true, all_both, all_same, all_shift}

-- exactly the first m of a list have the stamp
abbrev Marked : ℕ → List ℕ → List ℕ → ℕ → Type 0
Marked stamp marks l m = (v : ℕ) → v < length marks → is_fresh stamp v marks ≡ absent_to l v m

-- one more, x
marked_more : (stamp : ℕ) (marks l : List ℕ) (m x : ℕ) → get_or l m 0 ≡ x → x < length marks → Marked stamp marks l m → Marked stamp (set marks x stamp) l (m + 1)
unfolding absent_to all_to
marked_more stamp marks l m x e h known v inside = go (ℕ_discrete v x)
  where
    lower : v < length marks
    lower = rw (← length-set marks x stamp) inside

    go : Dec (v ≡ x) → is_fresh stamp v (set marks x stamp) ≡ absent_to l v (m + 1)
    go (yes q) =
        rw (q, add-one, get_or-set_same marks x stamp 0 h, eq-eqb stamp stamp refl)
        (sym (false_right (all_to (λ j. not (eqb (get_or l j 0) x)) m) (ap not (eq-eqb _ _ e))))
    go (no q) =
        rw (add-one, get_or-set_other marks x v stamp 0 q, ne_eqb (get_or l m 0) v (λ p. q (sym p ∙ e)))
        (known v lower ∙ sym (and_true (absent_to l v m)))

-- the first m of a list differ from each other
once_to : List ℕ → ℕ → Bool
once_to l m = all_to (λ k. absent_to l (get_or l k 0) k) m

either : (a b whole : Bool) → (a ≡ true → b ≡ whole) → (a ≡ false → whole ≡ false) → (a && b) ≡ whole
either true b whole on stop = on refl
either false b whole on stop = sym (stop refl)

-- a list whose first m columns are marked and differ: the others decide
decides : (stamp : ℕ) (l marks : List ℕ) (d m : ℕ) → m + d ≡ length l → Marked stamp marks l m
    → ((k : ℕ) → m ≤ k → k < length l → get_or l k 0 < length marks) → once_to l m ≡ true → all_fresh stamp (drop m l) marks ≡ once l
unfolding all_fresh once once_to
decides stamp l marks zero m long known below right =
    let e : m ≡ length l = omega arith in
    let past : length l ≤ m = omega arith in
    rw (drop_of_length-le l past) (sym (rw e at right))
decides stamp l marks (suc d) m long known below right =
    let x : ℕ = get_or l m 0 in
    let inside : m < length l = omega arith in
    let small : x < length marks = below m (omega arith) inside in
    let same : length (set marks x stamp) ≡ length marks = length-set marks x stamp in
    rw (drop-cons l m 0 inside, known x small)
    (either (absent_to l x m) (all_fresh stamp (drop (suc m) l) (set marks x stamp)) (once l)
    (λ e. rw (← add-one m)
    (decides stamp l (set marks x stamp) d (m + 1) (omega arith) (marked_more stamp marks l m x refl small known)
    (λ k a b. rw same (below k (omega arith) b)) (all_more (λ k. absent_to l (get_or l k 0) k) m right e)))
    (λ e. all_stop (λ k. absent_to l (get_or l k 0) k) m (length l) inside e))

-- Where no mark has the stamp, nothing is marked.
none_marked : (stamp : ℕ) (marks l : List ℕ) → ((v : ℕ) → get_or marks v 0 < stamp) → Marked stamp marks l 0
unfolding absent_to all_to
none_marked stamp marks l low v inside = ap not (ne_eqb (get_or marks v 0) stamp (λ e. absurd (omega (arith, low v, e))))

module _ (stamp : ℕ) (marks row : List ℕ) (low : (v : ℕ) → get_or marks v 0 < stamp) (below : (k : ℕ) → k < length row → get_or row k 0 < length marks) where
  -- the columns of a row that is marked from the start
  pub fresh_once : all_fresh stamp row marks ≡ once row
  unfolding once_to all_to
  fresh_once = decides stamp row marks (length row) 0 (omega arith) (none_marked stamp marks row low) (λ k a b. below k b) refl

  -- with another column marked before it
  pub fresh_after : (own : ℕ) → own < length marks → all_fresh stamp row (set marks own stamp) ≡ once (own ∷ row)
  unfolding once_to all_to absent_to
  fresh_after own small =
      let same : length (set marks own stamp) ≡ length marks = length-set marks own stamp in
      decides stamp (own ∷ row) (set marks own stamp) (length row) 1 (omega arith)
      (marked_more stamp marks (own ∷ row) 0 own refl small (none_marked stamp marks (own ∷ row) low)) (later same) refl
    where
      later : length (set marks own stamp) ≡ length marks → (k : ℕ) → 1 ≤ k → k < suc (length row) → get_or (own ∷ row) k 0 < length (set marks own stamp)
      later same zero a b = absurd (not-suc-le-zero a)
      later same (suc k) a b = rw same (below k (omega arith))

eqb_sym : (a b : ℕ) → eqb a b ≡ eqb b a
eqb_sym a b = go (ℕ_discrete a b)
  where
    go : Dec (a ≡ b) → eqb a b ≡ eqb b a
    go (yes e) = eq-eqb a b e ∙ sym (eq-eqb b a (sym e))
    go (no n) = ne_eqb a b n ∙ sym (ne_eqb b a (λ e. n (sym e)))

and_comm : (a b : Bool) → (a && b) ≡ (b && a)
and_comm true true = refl
and_comm true false = refl
and_comm false true = refl
and_comm false false = refl

-- columns that differ from each other and from the row's own: each stands once, and the own column is absent
pub once_after : (own : ℕ) (row : List ℕ) → once (own ∷ row) ≡ (once row && own_absent own row)
unfolding once own_absent absent_to all_to
once_after own row =
    all_shift (λ k. absent_to (own ∷ row) (get_or (own ∷ row) k 0) k) (length row)
    ∙ all_same (λ k. absent_to (own ∷ row) (get_or row k 0) (suc k)) (λ k. absent_to row (get_or row k 0) k && not (eqb (get_or row k 0) own)) (length row)
    (λ k. all_shift (λ j. not (eqb (get_or (own ∷ row) j 0) (get_or row k 0))) k
    ∙ rw (eqb_sym own (get_or row k 0)) (and_comm (not (eqb (get_or row k 0) own)) (absent_to row (get_or row k 0) k)))
    ∙ sym (all_both (λ k. absent_to row (get_or row k 0) k) (λ k. not (eqb (get_or row k 0) own)) (length row))
