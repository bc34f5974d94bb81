-- The computed level is the least level given.
-- Assumes nothing.
use mathlib.Core.Path.{◌≡◌, refl, ap}
use mathlib.Core.Logic.{◌⊎◌, inl, inr, ◌≢◌, ◌↔◌}
use mathlib.Core.Bool.{Bool, true, false, cond, ◌&&◌}
use mathlib.Core.Option.{Option, none, some}
use Prim.Native.Nat.{ℕ, zero, suc, ◌+◌, ◌≤◌, ◌<◌, max, min}
use native.Mathlib.Nat.{le_dest, add-zero, add-suc}
use native.Mathlib.Omega.{arith}
use lib.Dec.{T, ltb, eqb, ltb→lt, lt→ltb, eqb→eq, eqb_refl}
use Rattle.walks.specs.Levels.{Pattern, Given, entry, fill, Level, lesser, through, level_below, level_of}
use Rattle.walks.proofs.CountLaws.{is_true, holds, and→, →and}
use Rattle.walks.proofs.Highest.{le_or_lt}
use Rattle.walks.proofs.Claim.{given_ne}

-- if there is a level, P holds of it; there is a level, of at most m
abbrev Sound : Option ℕ → (ℕ → Type 0) → Type 0
Sound none P = Unit {0}
Sound (some l) P = P l

abbrev pub AtMost : Option ℕ → ℕ → Type 0
AtMost none m = ⊥
AtMost (some l) m = l ≤ m

-- each level that is computed is given
sound_cond : (b : Bool) (l : ℕ) (P : ℕ → Type 0) → (T b → P l) → Sound (cond b (some l) none) P
sound_cond true l P h = h tt
sound_cond false l P h = tt

sound_lesser : (o o' : Option ℕ) (P : ℕ → Type 0) → Sound o P → Sound o' P → Sound (lesser o o') P
sound_lesser none o' P h h' = h'
sound_lesser (some l) none P h h' = h
sound_lesser (some l) (some m) P h h' = go (le_or_lt l m)
  where
    go : (l ≤ m) ⊎ (m < l) → P (min l m)
    go (inl q) = let e : min l m ≡ l = omega arith in rw e h
    go (inr q) = let e : min l m ≡ m = omega arith in rw e h'

sound_through : (k : ℕ) (o o' : Option ℕ) (P Q R : ℕ → Type 0) → ((l m : ℕ) → P l → Q m → l < k → m < k → R (suc (max l m)))
    → Sound o P → Sound o' Q → Sound (through k o o') R
sound_through k none o' P Q R f h h' = tt
sound_through k (some l) none P Q R f h h' = tt
sound_through k (some l) (some m) P Q R f h h' = sound_cond (ltb l k && ltb m k) (suc (max l m)) R (λ t.
    let p = and→ (ltb l k) (ltb m k) t in f l m h h' (ltb→lt l k p.0) (ltb→lt m k p.1))

sound_below : (A : Pattern) (k b i j : ℕ) → b ≤ i → b ≤ j → i ≢ j → Sound (level_below A k b i j) (Given A k i j)
unfolding level_below
sound_below A k zero i j bi bj ne = sound_cond (A i j) 0 (Given A k i j) (λ t. entry ne (is_true (A i j) t))
sound_below A k (suc p) i j bi bj ne =
    sound_lesser (level_below A k p i j) (through k (level_below A k p i p) (level_below A k p p j)) (Given A k i j)
    (sound_below A k p i j (omega arith) (omega arith) ne)
    (sound_through k (level_below A k p i p) (level_below A k p p j) (Given A k i p) (Given A k p j) (Given A k i j)
    (λ l m g h lk mk. fill p ne bi bj g h lk mk)
    (sound_below A k p i p (omega arith) (omega arith) (λ e. omega (arith, e)))
    (sound_below A k p p j (omega arith) (omega arith) (λ e. omega (arith, e))))

-- each level that is given is reached
cond_yes : (b : Bool) (l m : ℕ) → T b → l ≤ m → AtMost (cond b (some l) none) m
cond_yes true l m t h = h
cond_yes false l m t h = absurd t

lesser_left : (o o' : Option ℕ) (m : ℕ) → AtMost o m → AtMost (lesser o o') m
lesser_left none o' m h = absurd h
lesser_left (some l) none m h = h
lesser_left (some l) (some l') m h = omega arith

lesser_right : (o o' : Option ℕ) (m : ℕ) → AtMost o' m → AtMost (lesser o o') m
lesser_right none o' m h = h
lesser_right (some l) none m h = absurd h
lesser_right (some l) (some l') m h = omega arith

through_le : (k : ℕ) (o o' : Option ℕ) (l m : ℕ) → AtMost o l → AtMost o' m → l < k → m < k → AtMost (through k o o') (suc (max l m))
through_le k none o' l m h h' lk mk = absurd h
through_le k (some a) none l m h h' lk mk = absurd h'
through_le k (some a) (some b) l m h h' lk mk =
    cond_yes (ltb a k && ltb b k) (suc (max a b)) (suc (max l m)) (→and (ltb a k) (ltb b k) (lt→ltb a k (omega arith)) (lt→ltb b k (omega arith))) (omega arith)

more : (A : Pattern) (k i j m b d : ℕ) → AtMost (level_below A k b i j) m → AtMost (level_below A k (b + d) i j) m
unfolding level_below
more A k i j m b zero h = rw add-zero h
more A k i j m b (suc d) h = rw add-suc (lesser_left (level_below A k (b + d) i j)
    (through k (level_below A k (b + d) i (b + d)) (level_below A k (b + d) (b + d) j)) m (more A k i j m b d h))

more_le : (A : Pattern) (k i j m b c : ℕ) → b ≤ c → AtMost (level_below A k b i j) m → AtMost (level_below A k c i j) m
more_le A k i j m b c h g = let d = le_dest h in rw d.1 at (more A k i j m b d.0 g)

reached : (A : Pattern) (k : ℕ) {i j l : ℕ} → Given A k i j l → AtMost (level_below A k (min i j) i j) l
unfolding level_below
reached A k (entry {i = i} {j = j} ne t) = more_le A k i j 0 0 (min i j) (omega arith) (cond_yes (A i j) 0 0 (holds t) (omega arith))
reached A k (fill {i = i} {j = j} {l = l} {m = m} p ne pi pj g h lk mk) =
    let ei : min i p ≡ p = omega arith in
    let ej : min p j ≡ p = omega arith in
    more_le A k i j (suc (max l m)) (suc p) (min i j) (omega arith)
    (lesser_right (level_below A k p i j) (through k (level_below A k p i p) (level_below A k p p j)) (suc (max l m))
    (through_le k (level_below A k p i p) (level_below A k p p j) l m (rw ei at (reached A k g)) (rw ej at (reached A k h)) lk mk))

sound : (A : Pattern) (k i j : ℕ) → Sound (level_of A k i j) (Given A k i j)
unfolding level_of
sound A k i j = go (eqb i j) (λ e. rw e (eqb_refl j))
  where
    go : (b : Bool) → (i ≡ j → T b) → Sound (cond b none (level_below A k (min i j) i j)) (Given A k i j)
    go true h = tt
    go false h = sound_below A k (min i j) i j (omega arith) (omega arith) h

pub complete : (A : Pattern) (k i j l : ℕ) → Given A k i j l → AtMost (level_of A k i j) l
unfolding level_of
complete A k i j l g = go (eqb i j) (eqb→eq i j)
  where
    go : (b : Bool) → (T b → i ≡ j) → AtMost (cond b none (level_below A k (min i j) i j)) l
    go true h = absurd (given_ne A k g (h tt))
    go false h = reached A k g

-- The computed level is the level.
pub level_some : (A : Pattern) (k i j l : ℕ) → (level_of A k i j ≡ some l) ↔ Level A k i j l
level_some A k i j l = (
  λ e. record { given = rw e at (sound A k i j); least = λ m g. rw e at (complete A k i j m g) },
  λ L. go (level_of A k i j) (sound A k i j) (complete A k i j l L.given) L,
)
  where
    go : (o : Option ℕ) → Sound o (Given A k i j) → AtMost o l → Level A k i j l → o ≡ some l
    go none s c L = absurd c
    go (some m) s c L = ap some (omega (arith, L.least m s))

-- There is none exactly if none is given.
pub level_none : (A : Pattern) (k i j : ℕ) → (level_of A k i j ≡ none) ↔ ((l : ℕ) → Given A k i j l → ⊥)
level_none A k i j = (
  λ e l g. rw e at (complete A k i j l g),
  λ h. go (level_of A k i j) (sound A k i j) h,
)
  where
    go : (o : Option ℕ) → Sound o (Given A k i j) → ((l : ℕ) → Given A k i j l → ⊥) → o ≡ none
    go none s h = refl
    go (some m) s h = absurd (h m s)
