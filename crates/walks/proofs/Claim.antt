-- A pair has a level at k exactly if a walk leads along it whose rows in between are lower than both, with nesting at most k.
-- Assumes nothing.
use mathlib.Core.Path.{◌≡◌, refl, sym, ◌∙◌}
use mathlib.Core.Logic.{◌≢◌, ◌↔◌}
use mathlib.Core.Bool.{true}
use mathlib.Core.List.{List, [], ◌∷◌, ◌++◌}
use Prim.Native.Nat.{ℕ, zero, suc, ◌+◌, ◌-◌, ◌≤◌, ◌<◌, max, min}
use native.Mathlib.Nat.{le_trans, add-zero, add-suc}
use native.Mathlib.Omega.{arith}
use lib.ListN.{length, length-append, get_or-append}
use lib.Seq.{get_or-append-add}
use Rattle.walks.specs.Levels.{Pattern, Given, entry, fill}
use Rattle.walks.specs.Nesting.{row, Nested, covers, covering, nesting}
use Rattle.walks.proofs.CountLaws.{is_true, largest_le, le_largest}
use Rattle.walks.proofs.CoverLaws.{→covers}
use Rattle.walks.proofs.Routes.{Route, LevelTo, join, back}

-- a list, and its rows over places
to_route : (A : Pattern) (i j k x : ℕ) (xs : List ℕ) → Nested A i j k (x ∷ xs) → Route A i j k (row (x ∷ xs)) (length xs)
unfolding nesting
to_route A i j k x xs N =
    let e : suc (length xs) - 1 ≡ length xs = omega arith in
    record {
      long = omega (arith, N.along.long);
      first = N.along.first;
      last = rw e at N.along.last;
      stored = λ s l. N.along.stored s (omega arith);
      lower = λ s o l. N.lower s o (omega arith);
      nested = λ y l. le_trans (le_largest (suc (length xs)) (covering (row (x ∷ xs)) (suc (length xs))) y (omega arith)) N.nested;
    }

of_route : (A : Pattern) (i j k x : ℕ) (xs : List ℕ) → Route A i j k (row (x ∷ xs)) (length xs) → Nested A i j k (x ∷ xs)
unfolding nesting
of_route A i j k x xs R =
    let e : length xs ≡ suc (length xs) - 1 = omega arith in
    record {
      along = record {
        long = omega (arith, R.long);
        first = R.first;
        last = rw (← e) R.last;
        stored = λ s l. R.stored s (omega arith);
      };
      lower = λ s o l. R.lower s o (omega arith);
      nested = largest_le (suc (length xs)) (covering (row (x ∷ xs)) (suc (length xs))) k (λ y l. R.nested y (omega arith));
    }

-- "A place covers itself."
pub covers_self : (w : List ℕ) (x : ℕ) → 0 < x → suc x < length w → covers (row w) (length w) x x ≡ true
covers_self w x a b = is_true _ (→covers (row w) (length w) x x
    (record { inner = a; under = b; top = λ z p q l. let e : z ≡ x = omega arith in rw e (omega arith) }))

-- "0 for a single entry"
pub single_entry : (i j : ℕ) → nesting (i ∷ j ∷ []) ≡ 0
unfolding nesting
single_entry i j = refl

-- a walk gives a level
pub walk_level : (A : Pattern) (k m : ℕ) → m ≤ k → (i j : ℕ) → i ≢ j → (w : List ℕ) → Nested A i j m w → LevelTo A k m i j
walk_level A k m b i j ne [] N = absurd (omega (arith, N.along.long))
walk_level A k m b i j ne (x ∷ xs) N = back A k m b i j ne (row (x ∷ xs)) (length xs) (to_route A i j m x xs N)

-- a bound on nesting may be raised
weaken : (A : Pattern) (i j k l : ℕ) (w : List ℕ) → k ≤ l → Nested A i j k w → Nested A i j l w
weaken A i j k l w h N = record { along = N.along; lower = N.lower; nested = le_trans N.nested h }

-- from the last row of the one on, the joined list has the rows of the other
seam : (x y : ℕ) (xs ys : List ℕ) → row (x ∷ xs) (length xs) ≡ y → (s : ℕ) → row (x ∷ xs ++ ys) (length xs + s) ≡ row (y ∷ ys) s
seam x y xs ys e zero = rw add-zero (get_or-append (x ∷ xs) ys 0 (length xs) (omega arith) ∙ e)
seam x y xs ys e (suc s) = rw add-suc (get_or-append-add xs ys s 0)

-- two walks joined, of one bound or of two
joined : (A : Pattern) (i p j m x y : ℕ) (xs ys : List ℕ) → p < i → p < j → Nested A i p m (x ∷ xs) → Nested A p j m (y ∷ ys) → Nested A i j (suc m) (x ∷ xs ++ ys)
joined A i p j m x y xs ys pi pj M N =
    let M' = to_route A i p m x xs M in
    let N' = to_route A p j m y ys N in
    let e : length (xs ++ ys) ≡ length xs + length ys = length-append xs ys in
    of_route A i j (suc m) x (xs ++ ys) (rw e
    (join A i p j m (row (x ∷ xs ++ ys)) (row (x ∷ xs)) (row (y ∷ ys)) (length xs) (length ys)
    (λ s l. get_or-append (x ∷ xs) ys 0 s (omega arith))
    (λ s l. seam x y xs ys (M'.last ∙ sym N'.first) s)
    M' N' pi pj))

both : (A : Pattern) (i p j l m : ℕ) → p < i → p < j → (w v : List ℕ) → Nested A i p l w → Nested A p j m v → (u : List ℕ) × Nested A i j (suc (max l m)) u
both A i p j l m pi pj [] v M N = absurd (omega (arith, M.along.long))
both A i p j l m pi pj (x ∷ xs) [] M N = absurd (omega (arith, N.along.long))
both A i p j l m pi pj (x ∷ xs) (y ∷ ys) M N = (
  x ∷ xs ++ ys,
  joined A i p j (max l m) x y xs ys pi pj
      (weaken A i p l (max l m) (x ∷ xs) (omega arith) M) (weaken A p j m (max l m) (y ∷ ys) (omega arith) N),
)

-- the walk of one entry
alone : (A : Pattern) (i j : ℕ) → A i j ≡ true → Nested A i j 0 (i ∷ j ∷ [])
unfolding nesting
alone A i j t = record {
  along = record { long = omega arith; first = refl; last = refl; stored = λ s l. let e : s ≡ 0 = omega arith in rw e t };
  lower = λ s o l. absurd (omega arith);
  nested = omega arith;
}

-- a level gives a walk
pub level_walk : (A : Pattern) (k : ℕ) {i j l : ℕ} → Given A k i j l → (w : List ℕ) × Nested A i j l w
level_walk A k (entry {i = i} {j = j} ne t) = (i ∷ j ∷ [], alone A i j t)
level_walk A k (fill {i = i} {j = j} {l = l} {m = m} p ne pi pj g h lk mk) =
    let w = level_walk A k g in
    let v = level_walk A k h in
    both A i p j l m pi pj w.0 v.0 w.1 v.1

-- a pair that is given a level is one of two rows, and a level is at most k and at most the lesser row
pub given_ne : (A : Pattern) (k : ℕ) {i j l : ℕ} → Given A k i j l → i ≢ j
given_ne A k (entry ne t) = ne
given_ne A k (fill p ne pi pj g h lk mk) = ne

pub given_le : (A : Pattern) (k : ℕ) {i j l : ℕ} → Given A k i j l → l ≤ k
given_le A k (entry ne t) = omega arith
given_le A k (fill p ne pi pj g h lk mk) = omega arith

pub given_low : (A : Pattern) (k : ℕ) {i j l : ℕ} → Given A k i j l → l ≤ min i j
given_low A k (entry ne t) = omega arith
given_low A k (fill p ne pi pj g h lk mk) = omega (arith, given_low A k g, given_low A k h)

-- below the bound k, the levels do not depend on it
pub given_raise : (A : Pattern) (k k' : ℕ) {i j l : ℕ} → l ≤ k' → Given A k i j l → Given A k' i j l
given_raise A k k' b (entry ne t) = entry ne t
given_raise A k k' b (fill p ne pi pj g h lk mk) =
    fill p ne pi pj (given_raise A k k' (omega arith) g) (given_raise A k k' (omega arith) h) (omega arith) (omega arith)

-- The claim, in both directions.
pub claim : (A : Pattern) (k i j : ℕ) → i ≢ j → ((l : ℕ) × Given A k i j l) ↔ ((w : List ℕ) × Nested A i j k w)
claim A k i j ne = (
  λ g. let w = level_walk A k g.1 in (w.0, weaken A i j g.0 k w.0 (given_le A k g.1) w.1),
  λ w. let l = walk_level A k k (omega arith) i j ne w.0 w.1 in (l.0, l.2),
)

-- the same at each m up to k, so that the least level is the least nesting
pub claim_at : (A : Pattern) (k m i j : ℕ) → m ≤ k → i ≢ j → ((l : ℕ) × (l ≤ m) × Given A k i j l) ↔ ((w : List ℕ) × Nested A i j m w)
claim_at A k m i j b ne = (
  λ g. let w = level_walk A k g.2 in (w.0, weaken A i j g.0 m w.0 g.1 w.1),
  λ w. walk_level A k m b i j ne w.0 w.1,
)
