-- The laws of the level: its bounds, what k does to it, the recursion in document 01's words and in the row loop's form, and the claim.
-- Assumes nothing.
use mathlib.Core.Path.{◌≡◌, refl}
use mathlib.Core.Logic.{◌⊎◌, inl, inr, ◌≢◌, ◌↔◌}
use mathlib.Core.Bool.{Bool, true, false, cond}
use mathlib.Core.Option.{Option, none, some}
use mathlib.Core.List.{List}
use Prim.Native.Nat.{ℕ, suc, ◌≤◌, ◌<◌, max, min}
use native.Mathlib.Omega.{arith}
use lib.Dec.{T, eqb, eqb→eq}
use Rattle.walks.specs.Levels.{Pattern, Given, entry, fill, lesser, through, level_below, level_of}
use Rattle.walks.specs.Nesting.{Nested}
use Rattle.walks.proofs.Highest.{le_or_lt}
use Rattle.walks.proofs.Claim.{given_ne, given_le, given_low, given_raise, claim, level_walk, walk_level}
use Rattle.walks.proofs.Computed.{AtMost, complete, level_some}

-- a level is at most the lesser of its row and its column
pub level_low : (A : Pattern) (k i j l : ℕ) → level_of A k i j ≡ some l → l ≤ min i j
level_low A k i j l e = given_low A k ((level_some A k i j l).0 e).given

-- a level that is given bounds the level computed
pub level_at_most : (A : Pattern) (k i j m : ℕ) → Given A k i j m → (l : ℕ) × (l ≤ m) × (level_of A k i j ≡ some l)
level_at_most A k i j m g = go (level_of A k i j) refl (complete A k i j m g)
  where
    go : (o : Option ℕ) → level_of A k i j ≡ o → AtMost o m → (l : ℕ) × (l ≤ m) × (level_of A k i j ≡ some l)
    go none e c = absurd c
    go (some l) e c = (l, c, e)

-- the level at k is the level at any other bound that it does not pass
pub level_raise : (A : Pattern) (k m i j l : ℕ) → l ≤ m → level_of A k i j ≡ some l → level_of A m i j ≡ some l
level_raise A k m i j l b e =
    let L = (level_some A k i j l).0 e in
    (level_some A m i j l).1 (record {
      given = given_raise A k m b L.given;
      least = λ x g. least x g (le_or_lt x k);
    })
  where
    least : (x : ℕ) → Given A m i j x → (x ≤ k) ⊎ (k < x) → l ≤ x
    least x g (inl h) = ((level_some A k i j l).0 e).least x (given_raise A m k h g)
    least x g (inr h) = omega (arith, given_le A k ((level_some A k i j l).0 e).given)

-- so that the fill at k is that at any larger bound, less the levels above k
pub level_cut : (A : Pattern) (k m i j l : ℕ) → k ≤ m → (level_of A k i j ≡ some l) ↔ ((level_of A m i j ≡ some l) × (l ≤ k))
level_cut A k m i j l b = (
  λ e. let low = given_le A k ((level_some A k i j l).0 e).given in (level_raise A k m i j l (omega (arith, low)) e, low),
  λ h. level_raise A m k i j l h.1 h.0,
)

-- "entries of A have level 0"
pub level_entry : (A : Pattern) (k i j : ℕ) → i ≢ j → (A i j ≡ true) → level_of A k i j ≡ some 0
level_entry A k i j ne t = (level_some A k i j 0).1 (record { given = entry ne t; least = λ m g. omega arith })

-- p gives (i, j) the level l
pub record By (A : Pattern) (k i j p l : ℕ) : Type 0 where
  pub lower_i : p < i
  pub lower_j : p < j
  pub a : ℕ
  pub b : ℕ
  pub level_a : level_of A k i p ≡ some a
  pub level_b : level_of A k p j ≡ some b
  pub a_below : a < k
  pub b_below : b < k
  pub is : l ≡ suc (max a b)

-- what a row p gives, (i, j) has, or less
pub level_rule : (A : Pattern) (k i j p l : ℕ) → i ≢ j → By A k i j p l → (m : ℕ) × (m ≤ l) × (level_of A k i j ≡ some m)
level_rule A k i j p l ne B = level_at_most A k i j l (rw B.is
    (fill p ne B.lower_i B.lower_j ((level_some A k i p B.a).0 B.level_a).given ((level_some A k p j B.b).0 B.level_b).given B.a_below B.b_below))

-- and a level is that of an entry, or some row p gives it
pub level_from : (A : Pattern) (k i j l : ℕ) → level_of A k i j ≡ some l → ((A i j ≡ true) × (l ≡ 0)) ⊎ ((p : ℕ) × By A k i j p l)
level_from A k i j l e = let L = (level_some A k i j l).0 e in go L.given L.least
  where
    go : {i j l : ℕ} → Given A k i j l → ((m : ℕ) → Given A k i j m → l ≤ m) → ((A i j ≡ true) × (l ≡ 0)) ⊎ ((p : ℕ) × By A k i j p l)
    go (entry ne t) least = inl (t, refl)
    go (fill {i = i} {j = j} {l = l} {m = m} p ne pi pj g h lk mk) least =
        let x = level_at_most A k i p l g in
        let y = level_at_most A k p j m h in
        let g' = ((level_some A k i p x.0).0 x.2).given in
        let h' = ((level_some A k p j y.0).0 y.2).given in
        let xk : x.0 < k = omega (arith, x.1) in
        let yk : y.0 < k = omega (arith, y.1) in
        inr (
          p,
          record {
            lower_i = pi;
            lower_j = pj;
            a = x.0;
            b = y.0;
            level_a = x.2;
            level_b = y.2;
            a_below = xk;
            b_below = yk;
            is = omega (arith, x.1, y.1, least (suc (max x.0 y.0)) (fill p ne pi pj g' h' xk yk));
          },
        )

-- what p finds when its turn comes is final
below_left : (A : Pattern) (k i p : ℕ) → p < i → level_below A k p i p ≡ level_of A k i p
unfolding level_of
below_left A k i p h = go (eqb i p) (eqb→eq i p)
  where
    go : (b : Bool) → (T b → i ≡ p) → level_below A k p i p ≡ cond b none (level_below A k (min i p) i p)
    go true f = absurd (omega (arith, f tt))
    go false f = let e : min i p ≡ p = omega arith in rw e

below_right : (A : Pattern) (k p j : ℕ) → p < j → level_below A k p p j ≡ level_of A k p j
unfolding level_of
below_right A k p j h = go (eqb p j) (eqb→eq p j)
  where
    go : (b : Bool) → (T b → p ≡ j) → level_below A k p p j ≡ cond b none (level_below A k (min p j) p j)
    go true f = absurd (omega (arith, f tt))
    go false f = let e : min p j ≡ p = omega arith in rw e

-- The turn of p in the row loop: what (i, j) had before, and what p gives it.
pub level_step : (A : Pattern) (k i j p : ℕ) → p < i → p < j
    → level_below A k (suc p) i j ≡ lesser (level_below A k p i j) (through k (level_of A k i p) (level_of A k p j))
unfolding level_below
level_step A k i j p hi hj = rw (← below_left A k i p hi, ← below_right A k p j hj)

-- the claim, of the computed level
pub claim_computed : (A : Pattern) (k i j : ℕ) → i ≢ j → ((l : ℕ) × (level_of A k i j ≡ some l)) ↔ ((w : List ℕ) × Nested A i j k w)
claim_computed A k i j ne = (
  λ g. (claim A k i j ne).0 (g.0, ((level_some A k i j g.0).0 g.1).given),
  λ w. let g = (claim A k i j ne).1 w in let l = level_at_most A k i j g.0 g.1 in (l.0, l.2),
)

-- the level is the least nesting of such a walk
pub level_is_nesting : (A : Pattern) (k i j l : ℕ) → level_of A k i j ≡ some l
    → ((w : List ℕ) × Nested A i j l w) × ((w : List ℕ) (m : ℕ) → Nested A i j m w → l ≤ m)
level_is_nesting A k i j l e =
    let L = (level_some A k i j l).0 e in
    (level_walk A k L.given, λ w m N. below w m N (le_or_lt m k))
  where
    below : (w : List ℕ) (m : ℕ) → Nested A i j m w → (m ≤ k) ⊎ (k < m) → l ≤ m
    below w m N (inl h) =
        let L = (level_some A k i j l).0 e in
        let g = walk_level A k m h i j (given_ne A k L.given) w N in
        omega (arith, g.1, L.least g.0 g.2)
    below w m N (inr h) = omega (arith, given_le A k ((level_some A k i j l).0 e).given)
