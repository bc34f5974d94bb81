-- y scaled from a place on: at the first place that is all of y, and a row that is scaled, added to and put back moves the place on by a row.
-- Assumes nothing.
use mathlib.Core.Path.{◌≡◌, refl, sym, ap, ◌∙◌}
use mathlib.Core.List.{List, [], ◌∷◌, ◌++◌, append-nil}
use Prim.Native.Nat.{ℕ, zero, suc, ◌+◌, ◌*◌, ◌≤◌}
use native.Mathlib.Omega.{arith}
use lib.ListN.{length, get_or, take, drop, length-append, length-drop, drop_of_length-le}
use lib.Seq.{take_all, take_at, drop_at, drop-drop, length-take-le, take-paste, drop-paste}
use lib.Ieee.{Float, Format, nan, mul}
use Rattle.base.specs.Each.{each}
use Rattle.blocks.specs.Block.{listed, scaled}
use Rattle.blocks.specs.Lent.{values_at, vector_at, put_at}
use Rattle.blocks.proofs.LentLaws.{values_part}
use Rattle.blocks.proofs.ListedLaws.{length_listed, listed_at, listed_same}
use Rattle.vectors.specs.Vectors.{scale_at, scaled_by}
use Rattle.matrix.specs.Product.{add_product, add_row, add_row_at}
use Rattle.matrix.specs.Steps.{scale_add_row_at, scaled_from}

module _ (f : Format) (beta : Float) where
  length_scaled : (l : List Float) → length (scaled_by f beta l) ≡ length l
  unfolding scaled_by each scale_at
  length_scaled [] = refl
  length_scaled (v ∷ l) = ap suc (length_scaled l)

  drop_scaled : (m : ℕ) (l : List Float) → drop m (scaled_by f beta l) ≡ scaled_by f beta (drop m l)
  unfolding scaled_by each scale_at
  drop_scaled zero l = refl
  drop_scaled (suc m) [] = refl
  drop_scaled (suc m) (v ∷ l) = drop_scaled m l

  take_scaled : (m : ℕ) (l : List Float) → take m (scaled_by f beta l) ≡ scaled_by f beta (take m l)
  unfolding scaled_by each scale_at
  take_scaled zero l = refl
  take_scaled (suc m) [] = refl
  take_scaled (suc m) (v ∷ l) = ap (λ (t : List Float). mul f v beta ∷ t) (take_scaled m l)

  scaled_after : (l : List Float) (v : Float) → scaled_by f beta (l ++ (v ∷ [])) ≡ scaled_by f beta l ++ (mul f v beta ∷ [])
  unfolding scaled_by each scale_at
  scaled_after [] v = refl
  scaled_after (u ∷ l) v = ap (λ (t : List Float). mul f u beta ∷ t) (scaled_after l v)

  -- m values that are scaled as a block's are, and as a vector's are
  scaled_listed : (m : ℕ) (g : ℕ → Float) → scaled_by f beta (listed m g) ≡ listed m (λ k. mul f (g k) beta)
  unfolding scaled_by each
  scaled_listed zero g = refl
  scaled_listed (suc m) g = scaled_after (listed m g) (g m) ∙ ap (λ (l : List Float). l ++ (mul f (g m) beta ∷ [])) (scaled_listed m g)

  scaled_values : (m p : ℕ) (y : List Float) → scaled f m (values_at m y p) beta ≡ scaled_by f beta (values_at m y p)
  scaled_values m p y =
      listed_same m (λ k. mul f (get_or (values_at m y p) k nan) beta) (λ k. mul f (get_or y (p + k) nan) beta)
      (λ k below. ap (λ (v : Float). mul f v beta) (listed_at m (λ j. get_or y (p + j) nan) k below))
      ∙ sym (scaled_listed m (λ k. get_or y (p + k) nan))

  module _ (p : ℕ) (y : List Float) where
    head : p ≤ length y → length (take p y) ≡ p
    head within = length-take-le p y within

    -- it is as long as y
    pub length_from : p ≤ length y → length (scaled_from f beta p y) ≡ length y
    unfolding scaled_from
    length_from within =
        omega (arith, length-append (take p y) (scaled_by f beta (drop p y)), head within, length_scaled (drop p y), length-drop p y)

    -- the first value to scale is the one at place p
    drop_from : p ≤ length y → drop p (scaled_from f beta p y) ≡ scaled_by f beta (drop p y)
    unfolding scaled_from
    drop_from within = drop_at (take p y) (scaled_by f beta (drop p y)) p (head within)

    -- a row that is read there is the row of y, scaled
    pub row_from : (m : ℕ) → p + m ≤ length y → values_at m (scaled_from f beta p y) p ≡ scaled f m (values_at m y p) beta
    row_from m within =
        values_part m (scaled_from f beta p y) p (omega (arith, length_from (omega arith)))
        ∙ ap (take m) (drop_from (omega arith)) ∙ take_scaled m (drop p y) ∙ ap (scaled_by f beta) (sym (values_part m y p within))
        ∙ sym (scaled_values m p y)

    -- new values put there are not scaled any more
    pub put_from : (new : List Float) → p + length new ≤ length y
        → scaled_from f beta (p + length new) (put_at p new y) ≡ put_at p new (scaled_from f beta p y)
    unfolding put_at scaled_from
    put_from new within =
        let m : ℕ = length new in
        let z : List Float = scaled_from f beta p y in
        let front : take p z ≡ take p y = take_at (take p y) (scaled_by f beta (drop p y)) p (head (omega arith)) in
        let rest : drop (p + m) z ≡ scaled_by f beta (drop (p + m) y) =
        sym (drop-drop m p z) ∙ ap (drop m) (drop_from (omega arith)) ∙ drop_scaled m (drop p y) ∙ ap (scaled_by f beta) (drop-drop m p y) in
        rw (take-paste y p new m (omega arith) (omega arith), drop-paste y p new m (omega arith) (omega arith), front, rest)

  -- before the first row, and after the last
  pub from_first : (y : List Float) → scaled_from f beta 0 y ≡ scaled_by f beta y
  unfolding scaled_from
  from_first y = refl

  pub from_last : (p : ℕ) (y : List Float) → length y ≤ p → scaled_from f beta p y ≡ y
  unfolding scaled_from scaled_by each
  from_last p y past = rw (take_all p y past, drop_of_length-le y past) (append-nil y)

length_row : (f : Format) (n : ℕ) (alpha : Float) (row : List ℕ) (first : ℕ) (values diagonal x : List Float) (i : ℕ) (t : List Float)
    → length (add_row f n alpha row first values diagonal x i t) ≡ n
unfolding add_row add_product
length_row f n alpha row first values diagonal x i t = length_listed n _

-- a turn: y with its rows from i on scaled, to which row i is added, is the new y with its rows from i + 1 on scaled
pub row_scaled : (f : Format) (n : ℕ) (beta alpha : Float) (row : List ℕ) (first : ℕ) (values diagonal x : List Float) (i : ℕ) (y : List Float) → n * i + n ≤ length y
    → scaled_from f beta (n * (i + 1)) (scale_add_row_at f n beta alpha row first values diagonal x i y)
    ≡ add_row_at f n alpha row first values diagonal x i (scaled_from f beta (n * i) y)
unfolding scale_add_row_at add_row_at
row_scaled f n beta alpha row first values diagonal x i y fits =
    let old : List Float = scaled f n (vector_at n y i) beta in
    let new : List Float = add_row f n alpha row first values diagonal x i old in
    let long : length new ≡ n = length_row f n alpha row first values diagonal x i old in
    let place : n * (i + 1) ≡ n * i + length new = omega (arith, long) in
    ap (λ (p : ℕ). scaled_from f beta p (put_at (n * i) new y)) place
    ∙ put_from f beta (n * i) y new (omega (arith, long))
    ∙ ap (λ (t : List Float). put_at (n * i) (add_row f n alpha row first values diagonal x i t) (scaled_from f beta (n * i) y)) (sym (row_from f beta (n * i) y n fits))
