-- The laws of `each` and `eachTo`. A loop's invariant is `l ≡ each_to f i l₀`.
-- Assumes nothing.
use mathlib.Core.Path.{◌≡◌, refl, sym, ap, ◌∙◌}
use mathlib.Core.List.{List, [], ◌∷◌, ◌++◌, append-nil}
use Prim.Native.Nat.{ℕ, zero, suc, ◌+◌, ◌≤◌, ◌<◌}
use native.Mathlib.Nat.{not-suc-le-zero, le_of_suc-le-suc}
use native.Mathlib.Numerals.{add-one}
use native.Mathlib.Omega.{arith}
use lib.ListN.{length, get_or, set, take, drop}
use lib.Seq.{drop-cons}
use Rattle.base.specs.Each.{each, each_to}

module _ {A : Type 0} where
  -- two lists are equal by their heads and their tails
  pub cons_same : {a b : A} {s t : List A} → a ≡ b → s ≡ t → ◌≡◌ {A = List A} (a ∷ s) (b ∷ t)
  cons_same p q = cc

  pub length_each : (f : ℕ → A → A) (l : List A) → length (each f l) ≡ length l
  unfolding each
  length_each f [] = refl
  length_each f (x ∷ l) = ap suc (length_each (λ i. f (suc i)) l)

  pub get_d_each : (f : ℕ → A → A) (l : List A) (i : ℕ) (d : A) → i < length l → get_or (each f l) i d ≡ f i (get_or l i d)
  unfolding each
  get_d_each f [] i d h = absurd (not-suc-le-zero h)
  get_d_each f (x ∷ l) zero d h = refl
  get_d_each f (x ∷ l) (suc i) d h = get_d_each (λ k. f (suc k)) l i d (le_of_suc-le-suc h)

  -- the two functions need to agree only below the length
  pub each_same : (f g : ℕ → A → A) (l : List A) → ((i : ℕ) (x : A) → i < length l → f i x ≡ g i x) → each f l ≡ each g l
  unfolding each
  each_same f g [] h = refl
  each_same f g (x ∷ l) h = cons_same (h zero x (omega arith)) (each_same (λ i. f (suc i)) (λ i. g (suc i)) l (λ i y b. h (suc i) y (omega arith)))

  pub length_each_to : (f : ℕ → A → A) (n : ℕ) (l : List A) → length (each_to f n l) ≡ length l
  unfolding each each_to
  length_each_to f zero l = refl
  length_each_to f (suc n) [] = refl
  length_each_to f (suc n) (x ∷ l) = ap suc (length_each_to (λ i. f (suc i)) n l)

  -- what a loop has not come to is as it was
  pub get_d_each_to : (f : ℕ → A → A) (n : ℕ) (l : List A) (i : ℕ) (d : A) → n ≤ i → get_or (each_to f n l) i d ≡ get_or l i d
  unfolding each each_to
  get_d_each_to f zero l i d h = refl
  get_d_each_to f (suc n) [] i d h = refl
  get_d_each_to f (suc n) (x ∷ l) zero d h = absurd (not-suc-le-zero h)
  get_d_each_to f (suc n) (x ∷ l) (suc i) d h = get_d_each_to (λ k. f (suc k)) n l i d (le_of_suc-le-suc h)

  -- before the first turn
  pub each_none : (f : ℕ → A → A) (l : List A) → each_to f 0 l ≡ l
  unfolding each each_to
  each_none f l = refl

  each_suc : (f : ℕ → A → A) (i : ℕ) (l : List A) (d : A) → i < length l → set (each_to f i l) i (f i (get_or l i d)) ≡ each_to f (suc i) l
  unfolding each each_to
  each_suc f i [] d h = absurd (not-suc-le-zero h)
  each_suc f zero (x ∷ l) d h = refl
  each_suc f (suc i) (x ∷ l) d h = ap (λ (t : List A). f zero x ∷ t) (each_suc (λ k. f (suc k)) i l d (le_of_suc-le-suc h))

  -- a turn: element i of the list as it is then goes in
  pub each_more : (f : ℕ → A → A) (i : ℕ) (l : List A) (d : A) → i < length l → set (each_to f i l) i (f i (get_or (each_to f i l) i d)) ≡ each_to f (i + 1) l
  each_more f i l d h = rw (add-one, get_d_each_to f i l i d (omega arith)) (each_suc f i l d h)

  -- after the last turn
  pub each_all : (f : ℕ → A → A) (n : ℕ) (l : List A) → length l ≤ n → each_to f n l ≡ each f l
  unfolding each each_to
  each_all f zero [] h = refl
  each_all f (suc n) [] h = refl
  each_all f zero (x ∷ l) h = absurd (not-suc-le-zero h)
  each_all f (suc n) (x ∷ l) h = ap (λ (t : List A). f zero x ∷ t) (each_all (λ i. f (suc i)) n l (le_of_suc-le-suc h))

  -- a part of a list, copied element by element over x
  pub each_part : (l : List A) (at : ℕ) (d : A) (x : List A) → at + length x ≤ length l → each (λ k _. get_or l (at + k) d) x ≡ take (length x) (drop at l)
  unfolding each
  each_part l at d [] h = refl
  each_part l at d (y ∷ x) h =
      rw (drop-cons l at d (omega arith)) (cons_same (ap (λ (k : ℕ). get_or l k d) (omega arith))
      (each_same _ _ x (λ k _ _. ap (λ (m : ℕ). get_or l m d) (omega arith)) ∙ each_part l (suc at) d x (omega arith)))
