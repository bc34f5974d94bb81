-- Rows that climb: what the tests of eight columns at once say, and what a row that climbs is.
-- Assumes nothing.
use mathlib.Core.Path.{◌≡◌, refl, sym, ap, ◌∙◌}
use mathlib.Core.List.{List, [], ◌∷◌}
use mathlib.Core.Bool.{Bool, true, false, cond, not, ◌&&◌}
use Prim.Native.Nat.{ℕ, zero, suc, ◌+◌, ◌≤◌, ◌<◌}
use native.Mathlib.Nat.{not-suc-le-zero}
use native.Mathlib.Numerals.{add-one}
use native.Mathlib.Omega.{arith}
use lib.ListN.{length, get_or, drop, drop_of_length-le}
use lib.Seq.{drop-cons}
use lib.Dec.{ltb, leb, eqb}
use borrow.Author.Tests.{ltb-true, lt-ltb, leb-true, le-leb, ne_eqb}
use Rattle.base.proofs.All.{both, and_left, and_right, all_of}
use Rattle.patterns.specs.Pattern.{absent_to, once, own_absent}
use Rattle.patterns.specs.Steps.{climbs_at, climbs, eight_climb, eight_climb_at}
use Rattle.patterns.proofs.TestLaws.{and_true}

-- several tests in a row, and each of them
abbrev conj : Bool → List Bool → Bool
conj a [] = a
conj a (b ∷ l) = conj (a && b) l

abbrev Each : Bool → List Bool → Type 0
Each a [] = a ≡ true
Each a (b ∷ l) = (a ≡ true) × Each b l

apart : (a b : Bool) (l : List Bool) → Each (a && b) l → (a ≡ true) × Each b l
apart a b [] h = (and_left a b h, and_right a b h)
apart a b (c ∷ l) h = (and_left a b h.0, (and_right a b h.0, h.1))

together : (a b : Bool) (l : List Bool) → a ≡ true → Each b l → Each (a && b) l
together a b [] p h = both p h
together a b (c ∷ l) p h = (both p h.0, h.1)

parts : (a : Bool) (l : List Bool) → conj a l ≡ true → Each a l
parts a [] h = h
parts a (b ∷ l) h = apart a b l (parts (a && b) l h)

joined : (a : Bool) (l : List Bool) → Each a l → conj a l ≡ true
joined a [] h = h
joined a (b ∷ l) h = joined (a && b) l (together a b l h.0 h.1)

clash : {b : Bool} → b ≡ true → b ≡ false → ⊥
clash p q = let z : ◌≡◌ {A = ℕ} 1 0 = ap (λ (b : Bool). cond b 1 0) (sym p ∙ q) in absurd (omega arith)

stop : (b : Bool) → (b ≡ true → ⊥) → b ≡ false
stop true h = absurd (h refl)
stop false h = refl

-- one column
module _ (n own least c : ℕ) where
  at_parts : climbs_at n own least c ≡ true → (least ≤ c) × (not (eqb c own) ≡ true) × (c < n)
  at_parts h =
      let e = parts (leb least c) (not (eqb c own) ∷ ltb c n ∷ []) h in
      (leb-true least c e.0, e.1.0, ltb-true c n e.1.1)

  at_joined : least ≤ c → not (eqb c own) ≡ true → c < n → climbs_at n own least c ≡ true
  at_joined low other small =
      joined (leb least c) (not (eqb c own) ∷ ltb c n ∷ []) (le-leb least c low, (other, lt-ltb c n small))

  first_of_lem : (later : List ℕ) → climbs n own least (c ∷ later) ≡ true → (climbs_at n own least c ≡ true) × (climbs n own (c + 1) later ≡ true)
  unfolding climbs
  first_of_lem later h = (and_left (climbs_at n own least c) (climbs n own (c + 1) later) h, and_right (climbs_at n own least c) (climbs n own (c + 1) later) h)

  on : (later : List ℕ) → climbs_at n own least c ≡ true → climbs n own least (c ∷ later) ≡ climbs n own (c + 1) later
  unfolding climbs
  on later h = rw h

-- eight columns
module _ (n own least c0 c1 c2 c3 c4 c5 c6 c7 : ℕ) where
  abbrev steps : List Bool
  steps = ltb c1 c2 ∷ ltb c2 c3 ∷ ltb c3 c4 ∷ ltb c4 c5 ∷ ltb c5 c6 ∷ ltb c6 c7 ∷ ltb c7 n ∷ []

  abbrev others : List Bool
  others = not (eqb c1 own) ∷ not (eqb c2 own) ∷ not (eqb c3 own) ∷ not (eqb c4 own) ∷ not (eqb c5 own) ∷ not (eqb c6 own) ∷ not (eqb c7 own) ∷ []

  abbrev rising : Bool
  rising = conj (ltb c0 c1) steps

  abbrev differing : Bool
  differing = conj (not (eqb c0 own)) others

  abbrev eight : Bool
  eight = eight_climb n own least c0 c1 c2 c3 c4 c5 c6 c7

  -- each of them may come next
  each_next : eight ≡ true → (later : List ℕ) → climbs n own least (c0 ∷ c1 ∷ c2 ∷ c3 ∷ c4 ∷ c5 ∷ c6 ∷ c7 ∷ later) ≡ climbs n own (c7 + 1) later
  each_next h later =
      let low = leb-true least c0 (and_left (leb least c0) (rising && differing) h) in
      let rest = and_right (leb least c0) (rising && differing) h in
      let r = parts (ltb c0 c1) steps (and_left rising differing rest) in
      let d = parts (not (eqb c0 own)) others (and_right rising differing rest) in
      let r0 : c0 < c1 = ltb-true c0 c1 r.0 in
      let r1 : c1 < c2 = ltb-true c1 c2 r.1.0 in
      let r2 : c2 < c3 = ltb-true c2 c3 r.1.1.0 in
      let r3 : c3 < c4 = ltb-true c3 c4 r.1.1.1.0 in
      let r4 : c4 < c5 = ltb-true c4 c5 r.1.1.1.1.0 in
      let r5 : c5 < c6 = ltb-true c5 c6 r.1.1.1.1.1.0 in
      let r6 : c6 < c7 = ltb-true c6 c7 r.1.1.1.1.1.1.0 in
      let r7 : c7 < n = ltb-true c7 n r.1.1.1.1.1.1.1 in
      on n own least c0 (c1 ∷ c2 ∷ c3 ∷ c4 ∷ c5 ∷ c6 ∷ c7 ∷ later) (at_joined n own least c0 (omega arith) d.0 (omega arith))
      ∙ on n own (c0 + 1) c1 (c2 ∷ c3 ∷ c4 ∷ c5 ∷ c6 ∷ c7 ∷ later) (at_joined n own (c0 + 1) c1 (omega arith) d.1.0 (omega arith))
      ∙ on n own (c1 + 1) c2 (c3 ∷ c4 ∷ c5 ∷ c6 ∷ c7 ∷ later) (at_joined n own (c1 + 1) c2 (omega arith) d.1.1.0 (omega arith))
      ∙ on n own (c2 + 1) c3 (c4 ∷ c5 ∷ c6 ∷ c7 ∷ later) (at_joined n own (c2 + 1) c3 (omega arith) d.1.1.1.0 (omega arith))
      ∙ on n own (c3 + 1) c4 (c5 ∷ c6 ∷ c7 ∷ later) (at_joined n own (c3 + 1) c4 (omega arith) d.1.1.1.1.0 (omega arith))
      ∙ on n own (c4 + 1) c5 (c6 ∷ c7 ∷ later) (at_joined n own (c4 + 1) c5 (omega arith) d.1.1.1.1.1.0 (omega arith))
      ∙ on n own (c5 + 1) c6 (c7 ∷ later) (at_joined n own (c5 + 1) c6 (omega arith) d.1.1.1.1.1.1.0 (omega arith))
      ∙ on n own (c6 + 1) c7 later (at_joined n own (c6 + 1) c7 (omega arith) d.1.1.1.1.1.1.1 (omega arith))

  last_below : eight ≡ true → c7 < n
  last_below h =
      let rest = and_right (leb least c0) (rising && differing) h in
      let r = parts (ltb c0 c1) steps (and_left rising differing rest) in
      ltb-true c7 n r.1.1.1.1.1.1.1

  -- and where they may, the tests hold
  tests_hold : (later : List ℕ) → climbs n own least (c0 ∷ c1 ∷ c2 ∷ c3 ∷ c4 ∷ c5 ∷ c6 ∷ c7 ∷ later) ≡ true → eight ≡ true
  tests_hold later h =
      let f0 = first_of_lem n own least c0 (c1 ∷ c2 ∷ c3 ∷ c4 ∷ c5 ∷ c6 ∷ c7 ∷ later) h in
      let f1 = first_of_lem n own (c0 + 1) c1 (c2 ∷ c3 ∷ c4 ∷ c5 ∷ c6 ∷ c7 ∷ later) f0.1 in
      let f2 = first_of_lem n own (c1 + 1) c2 (c3 ∷ c4 ∷ c5 ∷ c6 ∷ c7 ∷ later) f1.1 in
      let f3 = first_of_lem n own (c2 + 1) c3 (c4 ∷ c5 ∷ c6 ∷ c7 ∷ later) f2.1 in
      let f4 = first_of_lem n own (c3 + 1) c4 (c5 ∷ c6 ∷ c7 ∷ later) f3.1 in
      let f5 = first_of_lem n own (c4 + 1) c5 (c6 ∷ c7 ∷ later) f4.1 in
      let f6 = first_of_lem n own (c5 + 1) c6 (c7 ∷ later) f5.1 in
      let f7 = first_of_lem n own (c6 + 1) c7 later f6.1 in
      let p0 = at_parts n own least c0 f0.0 in
      let p1 = at_parts n own (c0 + 1) c1 f1.0 in
      let p2 = at_parts n own (c1 + 1) c2 f2.0 in
      let p3 = at_parts n own (c2 + 1) c3 f3.0 in
      let p4 = at_parts n own (c3 + 1) c4 f4.0 in
      let p5 = at_parts n own (c4 + 1) c5 f5.0 in
      let p6 = at_parts n own (c5 + 1) c6 f6.0 in
      let p7 = at_parts n own (c6 + 1) c7 f7.0 in
      both (le-leb least c0 p0.0)
      (both
      (joined (ltb c0 c1) steps (
        lt-ltb c0 c1 (omega (arith, p1.0)),
        (
          lt-ltb c1 c2 (omega (arith, p2.0)),
          (
            lt-ltb c2 c3 (omega (arith, p3.0)),
            (
              lt-ltb c3 c4 (omega (arith, p4.0)),
              (
                lt-ltb c4 c5 (omega (arith, p5.0)),
                (
                  lt-ltb c5 c6 (omega (arith, p6.0)),
                  (
                    lt-ltb c6 c7 (omega (arith, p7.0)),
                    lt-ltb c7 n p7.2,
                  ),
                ),
              ),
            ),
          ),
        ),
      ))
      (joined (not (eqb c0 own)) others (p0.1, (p1.1, (p2.1, (p3.1, (p4.1, (p5.1, (p6.1, p7.1)))))))))

  eight_is : (later : List ℕ) → climbs n own least (c0 ∷ c1 ∷ c2 ∷ c3 ∷ c4 ∷ c5 ∷ c6 ∷ c7 ∷ later) ≡ (eight && climbs n own (c7 + 1) later)
  eight_is later = go eight refl
    where
      go : (b : Bool) → eight ≡ b → climbs n own least (c0 ∷ c1 ∷ c2 ∷ c3 ∷ c4 ∷ c5 ∷ c6 ∷ c7 ∷ later) ≡ (b && climbs n own (c7 + 1) later)
      go true e = each_next e later
      go false e = stop (climbs n own least (c0 ∷ c1 ∷ c2 ∷ c3 ∷ c4 ∷ c5 ∷ c6 ∷ c7 ∷ later)) (λ h. clash (tests_hold later h) e)

-- a place of a row
module _ (n own least : ℕ) (row : List ℕ) where
  next : (j m : ℕ) → j < length row → j + 1 ≡ m → drop j row ≡ get_or row j 0 ∷ drop m row
  next j m inside is = rw (← is, add-one) (drop-cons row j 0 inside)

  -- one column that may come next, one that may not, and the end
  pub one_on : (k : ℕ) → k < length row → climbs_at n own least (get_or row k 0) ≡ true
      → climbs n own least (drop k row) ≡ climbs n own (get_or row k 0 + 1) (drop (k + 1) row)
  one_on k inside may = ap (climbs n own least) (next k (k + 1) inside refl) ∙ on n own least (get_or row k 0) (drop (k + 1) row) may

  pub one_stops : (k : ℕ) → k < length row → climbs_at n own least (get_or row k 0) ≡ false → climbs n own least (drop k row) ≡ false
  unfolding climbs
  one_stops k inside may = ap (climbs n own least) (next k (k + 1) inside refl) ∙ rw may

  pub none_left : (k : ℕ) → length row ≤ k → climbs n own least (drop k row) ≡ true
  unfolding climbs
  none_left k past = rw (drop_of_length-le row past)

  -- eight columns
  module _ (k : ℕ) (inside : k + 8 ≤ length row) where
    eight_drop : drop k row
        ≡ get_or row k 0 ∷ get_or row (k + 1) 0 ∷ get_or row (k + 2) 0 ∷ get_or row (k + 3) 0 ∷ get_or row (k + 4) 0 ∷ get_or row (k + 5) 0 ∷ get_or row (k + 6) 0 ∷ get_or row (k + 7) 0 ∷ drop (k + 8) row
    eight_drop =
        let e2 : (k + 1) + 1 ≡ k + 2 = omega arith in
        let e3 : (k + 2) + 1 ≡ k + 3 = omega arith in
        let e4 : (k + 3) + 1 ≡ k + 4 = omega arith in
        let e5 : (k + 4) + 1 ≡ k + 5 = omega arith in
        let e6 : (k + 5) + 1 ≡ k + 6 = omega arith in
        let e7 : (k + 6) + 1 ≡ k + 7 = omega arith in
        let e8 : (k + 7) + 1 ≡ k + 8 = omega arith in
        next k (k + 1) (omega arith) refl ∙ ap (λ (l : List ℕ). get_or row k 0 ∷ l)
        (next (k + 1) (k + 2) (omega arith) e2 ∙ ap (λ (l : List ℕ). get_or row (k + 1) 0 ∷ l)
        (next (k + 2) (k + 3) (omega arith) e3 ∙ ap (λ (l : List ℕ). get_or row (k + 2) 0 ∷ l)
        (next (k + 3) (k + 4) (omega arith) e4 ∙ ap (λ (l : List ℕ). get_or row (k + 3) 0 ∷ l)
        (next (k + 4) (k + 5) (omega arith) e5 ∙ ap (λ (l : List ℕ). get_or row (k + 4) 0 ∷ l)
        (next (k + 5) (k + 6) (omega arith) e6 ∙ ap (λ (l : List ℕ). get_or row (k + 5) 0 ∷ l)
        (next (k + 6) (k + 7) (omega arith) e7 ∙ ap (λ (l : List ℕ). get_or row (k + 6) 0 ∷ l)
        (next (k + 7) (k + 8) (omega arith) e8)))))))

    eight_on : climbs n own least (drop k row) ≡ (eight_climb_at n own least row k && climbs n own (get_or row (k + 7) 0 + 1) (drop (k + 8) row))
    unfolding eight_climb_at
    eight_on =
        ap (climbs n own least) eight_drop
        ∙ eight_is n own least (get_or row k 0) (get_or row (k + 1) 0) (get_or row (k + 2) 0) (get_or row (k + 3) 0) (get_or row (k + 4) 0) (get_or row (k + 5) 0)
        (get_or row (k + 6) 0) (get_or row (k + 7) 0) (drop (k + 8) row)

    pub eight_passes : eight_climb_at n own least row k ≡ true → climbs n own least (drop k row) ≡ climbs n own (get_or row (k + 7) 0 + 1) (drop (k + 8) row)
    eight_passes h = eight_on ∙ ap (λ (b : Bool). b && climbs n own (get_or row (k + 7) 0 + 1) (drop (k + 8) row)) h

    pub eight_stops : eight_climb_at n own least row k ≡ false → climbs n own least (drop k row) ≡ false
    eight_stops h = eight_on ∙ ap (λ (b : Bool). b && climbs n own (get_or row (k + 7) 0 + 1) (drop (k + 8) row)) h

    pub eight_last : eight_climb_at n own least row k ≡ true → get_or row (k + 7) 0 < n
    unfolding eight_climb_at
    eight_last h =
        last_below n own least (get_or row k 0) (get_or row (k + 1) 0) (get_or row (k + 2) 0) (get_or row (k + 3) 0) (get_or row (k + 4) 0) (get_or row (k + 5) 0)
        (get_or row (k + 6) 0) (get_or row (k + 7) 0) h

-- all of a row of eight
pub eight_all : (n own least : ℕ) (row : List ℕ) → length row ≡ 8 → eight_climb_at n own least row 0 ≡ climbs n own least row
eight_all n own least row long =
    let none = none_left n own (get_or row 7 0 + 1) row 8 (omega arith) in
    sym (and_true _) ∙ ap (λ (b : Bool). eight_climb_at n own least row 0 && b) (sym none) ∙ sym (eight_on n own least row 0 (omega arith))

-- What a row that climbs is.
module _ (n own : ℕ) where
  columns_right : (row : List ℕ) (least : ℕ) → climbs n own least row ≡ true → (k : ℕ) → k < length row
      → (least ≤ get_or row k 0) × (not (eqb (get_or row k 0) own) ≡ true) × (get_or row k 0 < n)
  columns_right [] least h k inside = absurd (not-suc-le-zero inside)
  columns_right (c ∷ row) least h zero inside = at_parts n own least c (first_of_lem n own least c row h).0
  columns_right (c ∷ row) least h (suc k) inside =
      let f = first_of_lem n own least c row h in
      let p = at_parts n own least c f.0 in
      let r = columns_right row (c + 1) f.1 k (omega arith) in
      (omega (arith, p.0, r.0), r.1, r.2)

  columns_rise : (row : List ℕ) (least : ℕ) → climbs n own least row ≡ true → (j k : ℕ) → j < k → k < length row → get_or row j 0 < get_or row k 0
  columns_rise [] least h j k before inside = absurd (not-suc-le-zero inside)
  columns_rise (c ∷ row) least h j zero before inside = absurd (not-suc-le-zero before)
  columns_rise (c ∷ row) least h zero (suc k) before inside =
      omega (arith, (columns_right row (c + 1) (first_of_lem n own least c row h).1 k (omega arith)).0)
  columns_rise (c ∷ row) least h (suc j) (suc k) before inside =
      columns_rise row (c + 1) (first_of_lem n own least c row h).1 j k (omega arith) (omega arith)

  module _ (row : List ℕ) (climbing : climbs n own 0 row ≡ true) where
    pub climb_once : once row ≡ true
    unfolding once absent_to
    climb_once =
        all_of (λ k. absent_to row (get_or row k 0) k) (length row)
        (λ k inside. all_of (λ j. not (eqb (get_or row j 0) (get_or row k 0))) k
        (λ j before. ap not (ne_eqb (get_or row j 0) (get_or row k 0) (λ e. absurd (omega (arith, e, columns_rise row 0 climbing j k before inside))))))

    pub climb_absent : own_absent own row ≡ true
    unfolding own_absent absent_to
    climb_absent = all_of (λ k. not (eqb (get_or row k 0) own)) (length row) (λ k inside. (columns_right row 0 climbing k inside).1)

    pub climb_below : (k : ℕ) → k < length row → get_or row k 0 < n
    climb_below k inside = (columns_right row 0 climbing k inside).2
