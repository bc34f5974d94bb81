-- A walk as its rows r at the places 0 .. t: two are joined, and one is taken apart.
-- Assumes nothing.
use mathlib.Core.Path.{◌≡◌, refl, sym, ap, ◌∙◌}
use mathlib.Core.Logic.{◌⊎◌, inl, inr, ◌≢◌}
use mathlib.Core.Bool.{true}
use Prim.Native.Nat.{ℕ, zero, suc, ◌+◌, ◌≤◌, ◌<◌, max}
use native.Mathlib.Nat.{add-zero, add-suc, suc-add, le_dest}
use native.Mathlib.Omega.{arith}
use Rattle.walks.specs.Levels.{Pattern, Given, entry, fill}
use Rattle.walks.specs.Nesting.{covering}
use Rattle.walks.proofs.CoverLaws.{uncovered, covered, join_left, join_right, part_left, part_right}
use Rattle.walks.proofs.Highest.{le_or_lt, First, Last, first_highest, last_highest}

-- A nested walk, over places.
pub record Route (A : Pattern) (i j k : ℕ) (r : ℕ → ℕ) (t : ℕ) : Type 0 where
  pub long : 0 < t
  pub first : r 0 ≡ i
  pub last : r t ≡ j
  pub stored : (s : ℕ) → s < t → A (r s) (r (suc s)) ≡ true
  pub lower : (s : ℕ) → 0 < s → s < t → (r s < i) × (r s < j)
  pub nested : (y : ℕ) → y ≤ t → covering r (suc t) y ≤ k

-- two cases of a place: before a, or at a + d
pub place : (a s : ℕ) → (s < a) ⊎ ((d : ℕ) × (a + d ≡ s))
place a s = go (le_or_lt a s)
  where
    go : (a ≤ s) ⊎ (s < a) → (s < a) ⊎ ((d : ℕ) × (a + d ≡ s))
    go (inl h) = inr (le_dest h)
    go (inr h) = inl h

-- Walks from i to p and from p to j, joined at place a.
module _ (A : Pattern) (i p j m : ℕ) (r r₁ r₂ : ℕ → ℕ) (a b : ℕ)
    (same₁ : (s : ℕ) → s ≤ a → r s ≡ r₁ s) (same₂ : (s : ℕ) → s ≤ b → r (a + s) ≡ r₂ s)
    (R₁ : Route A i p m r₁ a) (R₂ : Route A p j m r₂ b) (pi : p < i) (pj : p < j) where
  at_a : r a ≡ p
  at_a = same₁ a (omega arith) ∙ R₁.last

  low₁ : (s : ℕ) → 0 < s → s < a → r s < r a
  low₁ s x y = omega (arith, at_a, same₁ s (omega arith), (R₁.lower s x y).1)

  low₂ : (s : ℕ) → 0 < s → s < b → r (a + s) < r a
  low₂ s x y = omega (arith, at_a, same₂ s (omega arith), (R₂.lower s x y).0)

  join_stored : (s : ℕ) → s < a + b → A (r s) (r (suc s)) ≡ true
  join_stored s l = go (place a s)
    where
      go : (s < a) ⊎ ((d : ℕ) × (a + d ≡ s)) → A (r s) (r (suc s)) ≡ true
      go (inl h) = rw (same₁ s (omega arith), same₁ (suc s) (omega arith)) (R₁.stored s h)
      go (inr w) =
          let d : ℕ = w.0 in
          let e : a + d ≡ s = w.1 in
          let q : r s ≡ r₂ d = ap r (sym e) ∙ same₂ d (omega arith) in
          let q' : r (suc s) ≡ r₂ (suc d) = ap (λ (v : ℕ). r (suc v)) (sym e) ∙ ap r (sym (add-suc a d)) ∙ same₂ (suc d) (omega arith) in
          rw (q, q') (R₂.stored d (omega arith))

  join_lower : (s : ℕ) → 0 < s → s < a + b → (r s < i) × (r s < j)
  join_lower s o l = go (place a s)
    where
      go : (s < a) ⊎ ((d : ℕ) × (a + d ≡ s)) → (r s < i) × (r s < j)
      go (inl h) = omega (arith, at_a, low₁ s o h)
      go (inr w) = on w.0 w.1
        where
          on : (d : ℕ) → a + d ≡ s → (r s < i) × (r s < j)
          on zero e = let f : a ≡ s = omega arith in omega (arith, at_a, ap r f)
          on (suc d) e = omega (arith, at_a, ap r e, low₂ (suc d) (omega arith) (omega arith))

  join_nested : (y : ℕ) → y ≤ a + b → covering r (suc (a + b)) y ≤ suc m
  join_nested y l = go (place a y)
    where
      go : (y < a) ⊎ ((d : ℕ) × (a + d ≡ y)) → covering r (suc (a + b)) y ≤ suc m
      go (inl h) = omega (arith, join_left r r₁ r₂ a b same₁ same₂ low₁ low₂ y (omega arith), R₁.nested y (omega arith))
      go (inr w) =
          let d : ℕ = w.0 in
          let e : a + d ≡ y = w.1 in
          rw (← e) (omega (arith, join_right r r₁ r₂ a b same₁ same₂ low₁ low₂ d (omega arith), R₂.nested d (omega arith)))

  pub join : Route A i j (suc m) r (a + b)
  join = record {
    long = omega (arith, R₁.long);
    first = same₁ 0 (omega arith) ∙ R₁.first;
    last = same₂ b (omega arith) ∙ R₂.last;
    stored = join_stored;
    lower = join_lower;
    nested = join_nested;
  }

-- A walk taken apart at a highest place in between: up to place a, the first of them,
pub left_part : (A : Pattern) (i j m : ℕ) (r : ℕ → ℕ) (a b : ℕ) → 0 < a → 0 < b → Route A i j (suc m) r (a + b)
    → ((s : ℕ) → 0 < s → s < a + b → r s ≤ r a) → ((s : ℕ) → 0 < s → s < a → r s < r a) → Route A i (r a) m r a
left_part A i j m r a b in-a in_b R high before = record {
  long = in-a;
  first = R.first;
  last = refl;
  stored = λ s l. R.stored s (omega arith);
  lower = λ s o l. ((R.lower s o (omega arith)).0, before s o l);
  nested = λ y l. nested y l (le_or_lt y 0) (le_or_lt a y);
}
  where
    nested : (y : ℕ) → y ≤ a → (y ≤ 0) ⊎ (0 < y) → (a ≤ y) ⊎ (y < a) → covering r (suc a) y ≤ m
    nested y l (inl h) q =
        let e : y ≡ 0 = omega arith in
        omega (arith, uncovered r (suc a) y (omega arith) (λ x o u. omega (arith, ap r e, R.first, R.lower x o (omega arith))))
    nested y l (inr h) (inl q) =
        let e : y ≡ a = omega arith in
        omega (arith, uncovered r (suc a) y (omega arith) (λ x o u. omega (arith, ap r e, before x o (omega arith))))
    nested y l (inr h) (inr q) = omega (arith, part_left r a b in-a in_b high y h q, R.nested y (omega arith))

-- and from place a on, the last of them
pub right_part : (A : Pattern) (i j m : ℕ) (r : ℕ → ℕ) (a b : ℕ) → 0 < a → 0 < b → Route A i j (suc m) r (a + b)
    → ((s : ℕ) → 0 < s → s < a + b → r s ≤ r a) → ((s : ℕ) → 0 < s → s < b → r (a + s) < r a) → Route A (r a) j m (λ s. r (a + s)) b
right_part A i j m r a b in-a in_b R high after = record {
  long = in_b;
  first = ap r (add-zero a);
  last = R.last;
  stored = λ s l. rw (add-suc a s) (R.stored (a + s) (omega arith));
  lower = λ s o l. (after s o l, (R.lower (a + s) (omega arith) (omega arith)).1);
  nested = λ y l. nested y l (le_or_lt y 0) (le_or_lt b y);
}
  where
    nested : (y : ℕ) → y ≤ b → (y ≤ 0) ⊎ (0 < y) → (b ≤ y) ⊎ (y < b) → covering (λ s. r (a + s)) (suc b) y ≤ m
    nested y l (inl h) q =
        let e : a + y ≡ a = omega arith in
        omega (arith, uncovered (λ s. r (a + s)) (suc b) y (omega arith) (λ x o u. omega (arith, ap r e, after x o (omega arith))))
    nested y l (inr h) (inl q) =
        let e : a + y ≡ a + b = omega arith in
        omega (arith, uncovered (λ s. r (a + s)) (suc b) y (omega arith) (λ x o u. omega (arith, ap r e, R.last, R.lower (a + x) (omega arith) (omega arith))))
    nested y l (inr h) (inr q) = omega (arith, part_right r a b in-a in_b high y h q, R.nested (a + y) (omega arith))

-- a level of at most m
abbrev pub LevelTo : Pattern → ℕ → ℕ → ℕ → ℕ → Type 0
LevelTo A k m i j = (l : ℕ) × (l ≤ m) × Given A k i j l

-- what holds at 1 .. n + 1 holds at the places between 0 and n + 2
inside : (P : ℕ → Type 0) (n : ℕ) → ((s : ℕ) → s ≤ n → P (suc s)) → (s : ℕ) → 0 < s → s < suc (suc n) → P s
inside P n h zero o l = absurd (omega arith)
inside P n h (suc s) o l = h s (omega arith)

-- the row p of the two parts gives the level
finish : (A : Pattern) (k m i j p : ℕ) → suc m ≤ k → i ≢ j → p < i → p < j → LevelTo A k m i p → LevelTo A k m p j → LevelTo A k (suc m) i j
finish A k m i j p b ne pi pj x y =
    (suc (max x.0 y.0), omega (arith, x.1, y.1), fill p ne pi pj x.2 y.2 (omega (arith, x.1)) (omega (arith, y.1)))

-- a longer walk is taken apart, and its parts nest one less
split : (A : Pattern) (k m : ℕ) → suc m ≤ k
    → ((i j : ℕ) → i ≢ j → (r : ℕ → ℕ) (t : ℕ) → Route A i j m r t → LevelTo A k m i j)
    → (i j : ℕ) → i ≢ j → (r : ℕ → ℕ) (n : ℕ) → Route A i j (suc m) r (suc (suc n)) → LevelTo A k (suc m) i j
split A k m b ih i j ne r n R =
    let fh = first_highest (λ s. r (suc s)) n in
    let gh = last_highest (λ s. r (suc s)) n in
    let f : ℕ = fh.0 in
    let g : ℕ = gh.0 in
    let F : First (λ s. r (suc s)) n f = fh.1 in
    let G : Last (λ s. r (suc s)) n g = gh.1 in
    let df = le_dest F.in_range in
    let dg = le_dest G.in_range in
    let ef : suc (suc n) ≡ suc f + suc df.0 = omega (arith, df.1) in
    let eg : suc (suc n) ≡ suc g + suc dg.0 = omega (arith, dg.1) in
    let same : r (suc g) ≡ r (suc f) = omega (arith, F.high g G.in_range, G.high f F.in_range) in
    let low : (r (suc f) < i) × (r (suc f) < j) = R.lower (suc f) (omega arith) (omega (arith, F.in_range)) in
    let left : Route A i (r (suc f)) m r (suc f) = left_part A i j m r (suc f) (suc df.0) (omega arith) (omega arith) (rw ef at R)
    (rw (← ef) (inside (λ s. r s ≤ r (suc f)) n F.high))
    (λ s o l. inside (λ s. s < suc f → r s < r (suc f)) n (λ s m l. F.before s (omega arith)) s o (omega (arith, F.in_range)) l) in
    let right : Route A (r (suc g)) j m (λ s. r (suc g + s)) (suc dg.0) = right_part A i j m r (suc g) (suc dg.0) (omega arith) (omega arith) (rw eg at R)
    (rw (← eg) (inside (λ s. r s ≤ r (suc g)) n G.high))
    (λ s o l. omega (arith, ap r (suc-add g s), G.after (g + s) (omega arith) (omega (arith, dg.1)))) in
    finish A k m i j (r (suc f)) b ne low.0 low.1
    (ih i (r (suc f)) (λ e. omega (arith, e, low)) r (suc f) left)
    (ih (r (suc f)) j (λ e. omega (arith, e, low)) (λ s. r (suc g + s)) (suc dg.0) (rw same at right))

-- a walk of one entry
single : (A : Pattern) (k m i j : ℕ) → i ≢ j → (r : ℕ → ℕ) → Route A i j m r 1 → LevelTo A k m i j
single A k m i j ne r R = (0, omega arith, entry ne (rw (R.first, R.last) at (R.stored 0 (omega arith))))

-- a walk that does not nest is one entry
flat : (A : Pattern) (k i j : ℕ) → i ≢ j → (r : ℕ → ℕ) (t : ℕ) → Route A i j 0 r t → LevelTo A k 0 i j
flat A k i j ne r zero R = absurd (omega (arith, R.long))
flat A k i j ne r (suc zero) R = single A k 0 i j ne r R
flat A k i j ne r (suc (suc n)) R = absurd (omega (arith, covered r (suc (suc (suc n))) 1 (omega arith) (omega arith), R.nested 1 (omega arith)))

deep : (A : Pattern) (k m : ℕ) → suc m ≤ k
    → ((i j : ℕ) → i ≢ j → (r : ℕ → ℕ) (t : ℕ) → Route A i j m r t → LevelTo A k m i j)
    → (i j : ℕ) → i ≢ j → (r : ℕ → ℕ) (t : ℕ) → Route A i j (suc m) r t → LevelTo A k (suc m) i j
deep A k m b ih i j ne r zero R = absurd (omega (arith, R.long))
deep A k m b ih i j ne r (suc zero) R = single A k (suc m) i j ne r R
deep A k m b ih i j ne r (suc (suc n)) R = split A k m b ih i j ne r n R

-- a walk gives a level of at most its nesting
pub back : (A : Pattern) (k m : ℕ) → m ≤ k → (i j : ℕ) → i ≢ j → (r : ℕ → ℕ) (t : ℕ) → Route A i j m r t → LevelTo A k m i j
back A k zero b i j ne r t R = flat A k i j ne r t R
back A k (suc m) b i j ne r t R = deep A k m b (back A k m (omega arith)) i j ne r t R
