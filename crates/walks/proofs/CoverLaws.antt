-- Which places cover which, over the rows r at n places: as a test, as a statement, and in a part against the whole.
-- Assumes nothing.
use mathlib.Core.Path.{◌≡◌, ap}
use mathlib.Core.Bool.{Bool, not, ◌||◌}
use Prim.Native.Nat.{ℕ, suc, ◌+◌, ◌≤◌, ◌<◌, min, max}
use native.Mathlib.Nat.{add-suc, le_dest}
use native.Mathlib.Omega.{arith}
use Rattle.base.specs.All.{all_to}
use lib.Dec.{T, leb, ltb, leb→le, le→leb, ltb→lt, lt→ltb}
use Rattle.walks.specs.Counting.{bit, count}
use Rattle.walks.specs.Nesting.{between, from_to, covers, covering}
use Rattle.walks.proofs.CountLaws.{and→, →and, imp→, →imp, bit_le, bit_yes, bit_not, all→, →all, count_mono, count_none, count_peel, count_front, count_some}

-- Place x covers place y, in words: it is between the ends, and no row from the one to the other is higher.
pub record Covers (r : ℕ → ℕ) (n x y : ℕ) : Type 0 where
  pub inner : 0 < x
  pub under : suc x < n
  pub top : (z : ℕ) → min x y ≤ z → z ≤ max x y → z < n → r z ≤ r x

pub covers→ : (r : ℕ → ℕ) (n x y : ℕ) → T (covers r n x y) → Covers r n x y
covers→ r n x y t =
    let p = and→ (between n x) (all_to (λ z. not (from_to x y z) || leb (r z) (r x)) n) t in
    let q = and→ (ltb 0 x) (ltb (suc x) n) p.0 in
    record {
      inner = ltb→lt 0 x q.0;
      under = ltb→lt (suc x) n q.1;
      top = λ z a b l. leb→le (r z) (r x)
          (imp→ (from_to x y z) (leb (r z) (r x)) (all→ (λ z. not (from_to x y z) || leb (r z) (r x)) n p.1 z l)
          (→and (leb (min x y) z) (leb z (max x y)) (le→leb (min x y) z a) (le→leb z (max x y) b)));
    }

pub →covers : (r : ℕ → ℕ) (n x y : ℕ) → Covers r n x y → T (covers r n x y)
→covers r n x y c =
    →and (between n x) (all_to (λ z. not (from_to x y z) || leb (r z) (r x)) n)
    (→and (ltb 0 x) (ltb (suc x) n) (lt→ltb 0 x c.inner) (lt→ltb (suc x) n c.under))
    (→all (λ z. not (from_to x y z) || leb (r z) (r x)) n (λ z l. →imp (from_to x y z) (leb (r z) (r x)) (λ t.
    let p = and→ (leb (min x y) z) (leb z (max x y)) t in
    le→leb (r z) (r x) (c.top z (leb→le (min x y) z p.0) (leb→le z (max x y) p.1) l))))

-- a place whose row is higher than the rows in between is covered by none
pub uncovered : (r : ℕ → ℕ) (n y : ℕ) → y < n → ((x : ℕ) → 0 < x → suc x < n → r x < r y) → covering r n y ≡ 0
uncovered r n y l h = count_none n (λ x. covers r n x y) (λ x lx t.
    let c = covers→ r n x y t in
    omega (arith, c.top y (omega arith) (omega arith) l, h x c.inner c.under))

-- a place between the ends is covered, by itself
pub covered : (r : ℕ → ℕ) (n x : ℕ) → 0 < x → suc x < n → 1 ≤ covering r n x
covered r n x a b = count_some n (λ v. covers r n v x) x (omega arith) (→covers r n x x (record {
  inner = a;
  under = b;
  top = λ z p q l. let e : z ≡ x = omega arith in rw e (omega arith);
}))

-- Two walks joined at place a, whose row is higher than all in between: r is r₁ up to there, and r₂ from there on. One place more covers a place.
module _ (r r₁ r₂ : ℕ → ℕ) (a b : ℕ)
    (same₁ : (s : ℕ) → s ≤ a → r s ≡ r₁ s) (same₂ : (s : ℕ) → s ≤ b → r (a + s) ≡ r₂ s)
    (low₁ : (s : ℕ) → 0 < s → s < a → r s < r a) (low₂ : (s : ℕ) → 0 < s → s < b → r (a + s) < r a) where
  pub join_left : (y : ℕ) → y ≤ a → covering r (suc (a + b)) y ≤ covering r₁ (suc a) y + 1
  join_left y h =
      let f : ℕ → Bool = λ x. covers r (suc (a + b)) x y in
      let g : ℕ → Bool = λ x. covers r₁ (suc a) x y in
      let m : count a f ≤ count a g = count_mono a f g (λ x l t.
      let c = covers→ r (suc (a + b)) x y t in
      →covers r₁ (suc a) x y (record {
        inner = c.inner;
        under = omega arith;
        top = λ z p q lz. omega (arith, same₁ z (omega arith), same₁ x (omega arith), c.top z p q (omega arith));
      })) in
      let o : count b (λ x. f (suc (a + x))) ≡ 0 = count_none b (λ x. f (suc (a + x))) (λ x l t.
      let c = covers→ r (suc (a + b)) (suc (a + x)) y t in
      let u : suc (suc (a + x)) < suc (a + b) = c.under in
      omega (arith, c.top a (omega arith) (omega arith) (omega arith), low₂ (suc x) (omega arith) (omega arith), ap r (add-suc a x))) in
      omega (arith, count_peel a b f, bit_le (f a))

  pub join_right : (y : ℕ) → y ≤ b → covering r (suc (a + b)) (a + y) ≤ covering r₂ (suc b) y + 1
  join_right y h =
      let f : ℕ → Bool = λ x. covers r (suc (a + b)) x (a + y) in
      let g : ℕ → Bool = λ x. covers r₂ (suc b) x y in
      let o : count a f ≡ 0 = count_none a f (λ x l t.
      let c = covers→ r (suc (a + b)) x (a + y) t in
      omega (arith, c.top a (omega arith) (omega arith) (omega arith), low₁ x c.inner l)) in
      let m : count b (λ x. f (suc (a + x))) ≤ count b (λ x. g (suc x)) = count_mono b (λ x. f (suc (a + x))) (λ x. g (suc x)) (λ x l t.
      let c = covers→ r (suc (a + b)) (suc (a + x)) (a + y) t in
      →covers r₂ (suc b) (suc x) y (record {
        inner = omega arith;
        under = omega (arith, c.under);
        top = λ z p q lz. omega (arith, same₂ z (omega arith), same₂ (suc x) (omega arith), ap r (add-suc a x), c.top (a + z) (omega arith) (omega arith) (omega arith));
      })) in
      omega (arith, count_peel a b f, bit_le (f a), count_front b g)

-- A walk taken apart at a place a whose row no row in between exceeds: one place less covers a place of a part.
module _ (r : ℕ → ℕ) (a b : ℕ) (in-a : 0 < a) (in_b : 0 < b) (high : (s : ℕ) → 0 < s → s < a + b → r s ≤ r a) where
  tops : (y : ℕ) → 0 < y → y < a + b → T (covers r (suc (a + b)) a y)
  tops y p q = →covers r (suc (a + b)) a y (record {
    inner = in-a;
    under = omega arith;
    top = λ z u v l. high z (omega arith) (omega arith);
  })

  pub part_left : (y : ℕ) → 0 < y → y < a → covering r (suc a) y + 1 ≤ covering r (suc (a + b)) y
  part_left y p q =
      let f : ℕ → Bool = λ x. covers r (suc (a + b)) x y in
      let g : ℕ → Bool = λ x. covers r (suc a) x y in
      let m : count a g ≤ count a f = count_mono a g f (λ x l t.
      let c = covers→ r (suc a) x y t in
      →covers r (suc (a + b)) x y (record {
        inner = c.inner;
        under = omega arith;
        top = λ z u v lz. c.top z u v (omega arith);
      })) in
      let o : bit (g a) ≡ 0 = bit_not (g a) (λ t. omega (arith, (covers→ r (suc a) a y t).under)) in
      omega (arith, count_peel a b f, bit_yes (f a) (tops y p (omega arith)))

  pub part_right : (y : ℕ) → 0 < y → y < b → covering (λ s. r (a + s)) (suc b) y + 1 ≤ covering r (suc (a + b)) (a + y)
  part_right y p q =
      let f : ℕ → Bool = λ x. covers r (suc (a + b)) x (a + y) in
      let g : ℕ → Bool = λ x. covers (λ s. r (a + s)) (suc b) x y in
      let m : count b (λ x. g (suc x)) ≤ count b (λ x. f (suc (a + x))) = count_mono b (λ x. g (suc x)) (λ x. f (suc (a + x))) (λ x l t.
      let c = covers→ (λ s. r (a + s)) (suc b) (suc x) y t in
      →covers r (suc (a + b)) (suc (a + x)) (a + y) (record {
        inner = omega arith;
        under = omega (arith, c.under);
        top = λ z u v lz.
            let ge : a ≤ z = omega arith in
            let d = le_dest ge in
            let e : a + d.0 ≡ z = d.1 in
            omega (arith, ap r e, ap r (add-suc a x), c.top d.0 (omega arith) (omega arith) (omega arith));
      })) in
      let o : bit (g 0) ≡ 0 = bit_not (g 0) (λ t. omega (arith, (covers→ (λ s. r (a + s)) (suc b) 0 y t).inner)) in
      omega (arith, count_peel a b f, bit_yes (f a) (tops (a + y) (omega arith) (omega arith)), count_front b g)
