-- What the loops over a row do to its levels.
-- Assumes nothing.
use mathlib.Core.Path.{◌≡◌, refl, sym, ap, ◌∙◌}
use mathlib.Core.Logic.{◌≢◌, ◌⊎◌, inl, inr}
use mathlib.Core.List.{List, [], ◌∷◌, ◌++◌}
use mathlib.Core.Bool.{Bool, true, false, not, ◌&&◌, cond}
use mathlib.Core.Option.{Option, none, some}
use Prim.Native.Nat.{ℕ, zero, suc, ◌+◌, ◌-◌, ◌≤◌, ◌<◌, max}
use native.Mathlib.Numerals.{add-one}
use native.Mathlib.Omega.{arith}
use lib.Dec.{ltb, eqb}
use lib.ListN.{length, get_or, set, replicate, length-set, length-replicate, get_or-replicate}
use lib.Seq.{get_or-set_same, get_or-set_other}
use borrow.Author.Tests.{lt-ltb, le-ltb, eqb-true, eqb-false}
use Rattle.base.specs.All.{all_to}
use Rattle.base.proofs.Iterate.{iterate_keeps}
use Rattle.patterns.specs.Pattern.{absent_to, row_of}
use Rattle.walks.specs.Levels.{Pattern, lesser, through, level_of}
use Rattle.walks.proofs.Highest.{le_or_lt}
use Rattle.walks.proofs.LevelLaws.{level_low}
use Rattle.fill.specs.Fill.{stored, column_at, level_at, columns_from, levels_from}
use Rattle.fill.specs.Steps.{level_in, levels_in, level_up_to, Levelled, least, spread_one, spread_all, load_one, loaded}
use Rattle.fill.proofs.LevelLaws.{upto_done, upto_own, upto_low, upto_high, upto_start, least_level, word_below}

pub lesser_none : (o : Option ℕ) → lesser o none ≡ o
lesser_none none = refl
lesser_none (some l) = refl

pub through_none : (k : ℕ) (o : Option ℕ) → through k o none ≡ none
through_none k none = refl
through_none k (some l) = refl

-- a level that is not below k gives none
pub through_high : (k a : ℕ) (o : Option ℕ) → k ≤ a → through k (some a) o ≡ none
through_high k a none h = refl
through_high k a (some m) h = rw (le-ltb a k h)

module _ (k i a : ℕ) where
  pub length_one : (c l : ℕ) (row : List ℕ) → length (spread_one k i a c l row) ≡ length row
  unfolding spread_one
  length_one c l row = go (ltb l k && not (eqb c i))
    where
      go : (b : Bool) → length (cond b (set row c (least (get_or row c 0) (max a l + 2))) row) ≡ length row
      go true = length-set row c _
      go false = refl

  one_other : (c l j : ℕ) (row : List ℕ) → j ≢ c → levels_in (spread_one k i a c l row) j ≡ levels_in row j
  unfolding spread_one
  one_other c l j row ne = go (ltb l k && not (eqb c i))
    where
      go : (b : Bool) → levels_in (cond b (set row c (least (get_or row c 0) (max a l + 2))) row) j ≡ levels_in row j
      go true = ap level_in (get_or-set_other row c j _ 0 ne)
      go false = refl

  -- the level after the pivot's entry, of level o, at column j
  abbrev pub given : Option ℕ → ℕ → Option ℕ → Option ℕ
  given o j old = cond (eqb j i) old (lesser old (through k (some a) o))

  one_same : (c l : ℕ) (row : List ℕ) → a < k → c < length row → levels_in (spread_one k i a c l row) c ≡ given (some l) c (levels_in row c)
  unfolding spread_one
  one_same c l row h b = rw (lt-ltb a k h) (go (ltb l k) (eqb c i))
    where
      go : (x y : Bool) → levels_in (cond (x && not y) (set row c (least (get_or row c 0) (max a l + 2))) row) c
          ≡ cond y (levels_in row c) (lesser (levels_in row c) (cond x (some (suc (max a l))) none))
      go true true = refl
      go true false =
          let e : max a l + 2 ≡ suc (max a l) + 1 = omega arith in
          ap level_in (get_or-set_same row c _ 0 b) ∙ rw e (least_level (get_or row c 0) (suc (max a l)))
      go false true = refl
      go false false = sym (lesser_none (levels_in row c))

  given_none : (j : ℕ) (old : Option ℕ) → given none j old ≡ old
  given_none j old = go (eqb j i)
    where
      go : (b : Bool) → cond b old (lesser old none) ≡ old
      go true = refl
      go false = lesser_none old

  pub length_all : (cs ls row : List ℕ) → length (spread_all k i a cs ls row) ≡ length row
  unfolding spread_all
  length_all [] ls row = refl
  length_all (c ∷ cs) [] row = refl
  length_all (c ∷ cs) (l ∷ ls) row = length_all cs ls (spread_one k i a c l row) ∙ length_one c l row

  -- a head that stands at another column changes nothing at j
  past : (n c j : ℕ) (G : Option ℕ → Option ℕ) (cs ls : List ℕ) → j ≢ c
      → ((row : List ℕ) → length row ≡ n → levels_in (spread_all k i a cs ls row) j ≡ G (levels_in row j))
      → (o : Option ℕ) (row : List ℕ) → length row ≡ n → levels_in (spread_all k i a (column_at o c ++ cs) (level_at o ++ ls) row) j ≡ G (levels_in row j)
  unfolding spread_all
  past n c j G cs ls ne h none row e = h row e
  past n c j G cs ls ne h (some l) row e = h (spread_one k i a c l row) (length_one c l row ∙ e) ∙ ap G (one_other c l j row ne)

  head : (n c : ℕ) (cs ls : List ℕ) → a < k → c < n
      → ((row : List ℕ) → length row ≡ n → levels_in (spread_all k i a cs ls row) c ≡ levels_in row c)
      → (o : Option ℕ) (row : List ℕ) → length row ≡ n → levels_in (spread_all k i a (column_at o c ++ cs) (level_at o ++ ls) row) c ≡ given o c (levels_in row c)
  unfolding spread_all
  head n c cs ls ak cn h none row e = h row e ∙ sym (given_none c (levels_in row c))
  head n c cs ls ak cn h (some l) row e = h (spread_one k i a c l row) (length_one c l row ∙ e) ∙ one_same c l row ak (omega arith)

  module _ (f : ℕ → Option ℕ) (n : ℕ) where
    pub spread_before : (c d j : ℕ) → j < c → (row : List ℕ) → length row ≡ n → levels_in (spread_all k i a (columns_from f c d) (levels_from f c d) row) j ≡ levels_in row j
    unfolding columns_from levels_from spread_all
    spread_before c zero j h row e = refl
    spread_before c (suc d) j h row e =
        past n c j (λ o. o) (columns_from f (suc c) d) (levels_from f (suc c) d) (λ q. omega (arith, q)) (λ r q. spread_before (suc c) d j (omega arith) r q) (f c) row e

    pub spread_from : (c d j : ℕ) → a < k → c ≤ j → j < c + d → c + d ≤ n → (row : List ℕ) → length row ≡ n
        → levels_in (spread_all k i a (columns_from f c d) (levels_from f c d) row) j ≡ given (f j) j (levels_in row j)
    unfolding columns_from levels_from
    spread_from c zero j ak h b m row e = absurd (omega arith)
    spread_from c (suc d) j ak h b m row e = go (le_or_lt j c) (λ q r z. spread_from (suc c) d j ak q (omega arith) (omega arith) r z)
      where
        go : (j ≤ c) ⊎ (c < j) → (suc c ≤ j → (r : List ℕ) → length r ≡ n → levels_in (spread_all k i a (columns_from f (suc c) d) (levels_from f (suc c) d) r) j ≡ given (f j) j (levels_in r j))
            → levels_in (spread_all k i a (columns_from f c (suc d)) (levels_from f c (suc d)) row) j ≡ given (f j) j (levels_in row j)
        go (inl q) rec =
            let s : j ≡ c = omega arith in
            rw s (head n c (columns_from f (suc c) d) (levels_from f (suc c) d) ak (omega arith) (λ r z. spread_before (suc c) d c (omega arith) r z) (f c) row e)
        go (inr q) rec =
            past n c j (given (f j) j) (columns_from f (suc c) d) (levels_from f (suc c) d) (λ z. omega (arith, z))
            (λ r z. rec q r z) (f c) row e

module _ (A : Pattern) (k n p i : ℕ) (row : List ℕ) (L : Levelled A k n p i row) (hp : p < i) (hi : i < n) where
  -- the level of (i, p) is final
  pub pivot_level : levels_in row p ≡ level_of A k i p
  pivot_level = L.at p (omega arith) ∙ upto_done A k p i p (omega arith)

  -- the pivot gives nothing
  idle : ((o : Option ℕ) → through k (level_of A k i p) o ≡ none) → Levelled A k n (p + 1) i row
  idle h = record { long = L.long; at = λ j b. L.at j b ∙ sym (same j (le_or_lt j p) (eqb i j) refl) }
    where
      same : (j : ℕ) → (j ≤ p) ⊎ (p < j) → (b : Bool) → eqb i j ≡ b → level_up_to A k (p + 1) i j ≡ level_up_to A k p i j
      same j (inl q) b e = upto_low A k p i j hp q
      same j (inr q) true e = rw (← eqb-true i j e) (upto_own A k (p + 1) i ∙ sym (upto_own A k p i))
      same j (inr q) false e = upto_high A k p i j hp q (eqb-false i j e) ∙ rw (h (level_of A k p j)) (lesser_none (level_up_to A k p i j))

  pub skip_none : get_or row p 0 ≡ 0 → Levelled A k n (p + 1) i row
  skip_none e = let q : level_of A k i p ≡ none = sym pivot_level ∙ ap level_in e in idle (λ o. rw q)

  level_is : (w : ℕ) → get_or row p 0 ≡ w → 0 < w → level_of A k i p ≡ some (w - 1)
  level_is zero e h = absurd (omega arith)
  level_is (suc w) e h = let z : suc w - 1 ≡ w = omega arith in rw z (sym pivot_level ∙ ap level_in e)

  pub skip_high : (w : ℕ) → get_or row p 0 ≡ w → 0 < w → k ≤ w - 1 → Levelled A k n (p + 1) i row
  skip_high w e h g = idle (λ o. rw (level_is w e h) (through_high k (w - 1) o g))

  -- its upper entries give theirs
  pub spread_levelled : (w : ℕ) (cs ls row' : List ℕ) → get_or row p 0 ≡ w → 0 < w → w - 1 < k → cs ≡ columns_from (level_of A k p) (p + 1) (n - (p + 1))
      → ls ≡ levels_from (level_of A k p) (p + 1) (n - (p + 1)) → row' ≡ spread_all k i (w - 1) cs ls row → Levelled A k n (p + 1) i row'
  spread_levelled w cs ls row' e h g ec el er =
      let s : row' ≡ spread_all k i (w - 1) (columns_from (level_of A k p) (p + 1) (n - (p + 1))) (levels_from (level_of A k p) (p + 1) (n - (p + 1))) row = er ∙ rw (ec, el) in
      record {
        long = ap length er ∙ length_all k i (w - 1) cs ls row ∙ L.long;
        at = λ j b. ap (λ (r : List ℕ). levels_in r j) s ∙ go j b (le_or_lt j p) (eqb j i) refl;
      }
    where
      go : (j : ℕ) → j < n → (j ≤ p) ⊎ (p < j) → (b : Bool) → eqb j i ≡ b
          → levels_in (spread_all k i (w - 1) (columns_from (level_of A k p) (p + 1) (n - (p + 1))) (levels_from (level_of A k p) (p + 1) (n - (p + 1))) row) j ≡ level_up_to A k (p + 1) i j
      go j b (inl q) t u =
          spread_before k i (w - 1) (level_of A k p) n (p + 1) (n - (p + 1)) j (omega arith) row L.long ∙ L.at j b ∙ sym (upto_low A k p i j hp q)
      go j b (inr q) true u =
          let s : j ≡ i = eqb-true j i u in
          spread_from k i (w - 1) (level_of A k p) n (p + 1) (n - (p + 1)) j g (omega arith) (omega arith) (omega arith) row L.long
          ∙ rw u (L.at j b ∙ rw s (upto_own A k p i ∙ sym (upto_own A k (p + 1) i)))
      go j b (inr q) false u =
          spread_from k i (w - 1) (level_of A k p) n (p + 1) (n - (p + 1)) j g (omega arith) (omega arith) (omega arith) row L.long
          ∙ rw u (rw (L.at j b, ← level_is w e h) (sym (upto_high A k p i j hp q (λ z. eqb-false j i u (sym z)))))

  -- a level that is read is small
  pub pivot_small : get_or row p 0 ≤ p + 1
  pivot_small = word_below (get_or row p 0) (p + 1) (λ l e. omega (arith, level_low A k i p l (sym pivot_level ∙ e)))

module _ (A : Pattern) (k n i : ℕ) (row : List ℕ) (L : Levelled A k n i i row) where
  pub row_level : (j : ℕ) → j < n → levels_in row j ≡ level_of A k i j
  row_level j b = L.at j b ∙ upto_done A k i i j (omega arith)

  pub row_small : (j : ℕ) → j < n → get_or row j 0 ≤ j + 1
  row_small j b = word_below (get_or row j 0) (j + 1) (λ l e. omega (arith, level_low A k i j l (sym (row_level j b) ∙ e)))

abbrev Loaded : List ℕ → ℕ → ℕ → List ℕ → Type 0
Loaded cs n e t = (length t ≡ n) × ((j : ℕ) → j < n → levels_in t j ≡ cond (not (absent_to cs j e)) (some 0) none)

load_turn : (cs : List ℕ) (n e : ℕ) (t : List ℕ) → Loaded cs n e t → Loaded cs n (e + 1) (load_one cs e t)
unfolding load_one absent_to all_to
load_turn cs n e t h = (
  length-set t (get_or cs e 0) 1 ∙ h.0,
  λ j b. rw add-one (go j b (eqb (get_or cs e 0) j) refl (absent_to cs j e) refl),
)
  where
    go : (j : ℕ) → j < n → (x : Bool) → eqb (get_or cs e 0) j ≡ x → (y : Bool) → absent_to cs j e ≡ y
        → levels_in (set t (get_or cs e 0) 1) j ≡ cond (not (absent_to cs j e && not (eqb (get_or cs e 0) j))) (some 0) none
    go j b true u true v = let s : get_or cs e 0 ≡ j = eqb-true _ j u in rw (u, v) (rw s (ap level_in (get_or-set_same t j 1 0 (omega (arith, h.0)))))
    go j b true u false v = let s : get_or cs e 0 ≡ j = eqb-true _ j u in rw (u, v) (rw s (ap level_in (get_or-set_same t j 1 0 (omega (arith, h.0)))))
    go j b false u true v = rw (u, v) (ap level_in (get_or-set_other t (get_or cs e 0) j 1 0 (λ z. eqb-false _ j u (sym z))) ∙ h.1 j b ∙ rw v)
    go j b false u false v = rw (u, v) (ap level_in (get_or-set_other t (get_or cs e 0) j 1 0 (λ z. eqb-false _ j u (sym z))) ∙ h.1 j b ∙ rw v)

load_all : (cs : List ℕ) (n : ℕ) → Loaded cs n (length cs) (loaded cs (replicate n 0))
unfolding loaded absent_to all_to
load_all cs n = iterate_keeps (load_one cs) (Loaded cs n) 0 (replicate n 0) (length cs) (omega arith)
    (length-replicate n 0, λ j b. ap level_in (get_or-replicate n j 0 0 b)) (λ e t _ _ h. load_turn cs n e t h)

-- row i of A, loaded into zeros
pub load_levelled : (k n i : ℕ) (o cs part row row' : List ℕ) → absent_to (row_of o cs i) i (length (row_of o cs i)) ≡ true → part ≡ row_of o cs i → row ≡ replicate n 0
    → row' ≡ loaded part row → Levelled (stored o cs) k n 0 i row'
unfolding stored
load_levelled k n i o cs part row row' own ep er e =
    let all = load_all (row_of o cs i) n in
    let s : row' ≡ loaded (row_of o cs i) (replicate n 0) = e ∙ rw (ep, er) in
    record { long = ap length s ∙ all.0; at = λ j b. ap (λ (r : List ℕ). levels_in r j) s ∙ all.1 j b ∙ go j (eqb i j) refl }
  where
    go : (j : ℕ) (b : Bool) → eqb i j ≡ b → cond (not (absent_to (row_of o cs i) j (length (row_of o cs i)))) (some 0) none ≡ level_up_to (stored o cs) k 0 i j
    go j true u = let q : j ≡ i = sym (eqb-true i j u) in rw (q, own) (sym (upto_own (stored o cs) k 0 i))
    go j false u = sym (upto_start (stored o cs) k i j (eqb-false i j u))
