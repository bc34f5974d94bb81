-- Laws of the lists of columns and levels, and of what the loops do to a row.
-- Assumes nothing.
use mathlib.Core.Path.{◌≡◌, refl, sym, ap, ◌∙◌}
use mathlib.Core.List.{List, [], ◌∷◌, ◌++◌, append_assoc, append-nil}
use mathlib.Core.Option.{Option, none, some}
use Prim.Native.Nat.{ℕ, zero, suc, ◌+◌, ◌-◌, ◌≤◌, ◌<◌}
use native.Mathlib.Nat.{not-suc-le-zero, le_of_suc-le-suc}
use native.Mathlib.Numerals.{add-one}
use native.Mathlib.Omega.{arith}
use lib.ListN.{length, get_or, set, take, drop, replicate, length-append, length-drop, drop_of_length-le}
use lib.Seq.{drop-cons, drop-drop, set-append_seam, append_snoc, drop-append_seam, take-append_seam}
use Rattle.fill.specs.Fill.{column_at, level_at, columns_from, levels_from}
use Rattle.fill.specs.Steps.{spread_one, spread_all, over}

module _ (f : ℕ → Option ℕ) where
  pub columns_add : (c d e : ℕ) → columns_from f c (d + e) ≡ columns_from f c d ++ columns_from f (c + d) e
  unfolding columns_from
  columns_add c zero e =
      let q : 0 + e ≡ e = omega arith in
      let r : c + 0 ≡ c = omega arith in
      rw (q, r)
  columns_add c (suc d) e =
      let q : suc d + e ≡ suc (d + e) = omega arith in
      let r : c + suc d ≡ suc c + d = omega arith in
      rw (q, r) (ap (λ (t : List ℕ). column_at (f c) c ++ t) (columns_add (suc c) d e) ∙ sym (append_assoc (column_at (f c) c) _ _))

  pub levels_add : (c d e : ℕ) → levels_from f c (d + e) ≡ levels_from f c d ++ levels_from f (c + d) e
  unfolding levels_from
  levels_add c zero e =
      let q : 0 + e ≡ e = omega arith in
      let r : c + 0 ≡ c = omega arith in
      rw (q, r)
  levels_add c (suc d) e =
      let q : suc d + e ≡ suc (d + e) = omega arith in
      let r : c + suc d ≡ suc c + d = omega arith in
      rw (q, r) (ap (λ (t : List ℕ). level_at (f c) ++ t) (levels_add (suc c) d e) ∙ sym (append_assoc (level_at (f c)) _ _))

  -- one column more
  pub columns_one : (m : ℕ) → columns_from f 0 (m + 1) ≡ columns_from f 0 m ++ column_at (f m) m
  unfolding columns_from
  columns_one m = let z : 0 + m ≡ m = omega arith in columns_add 0 m 1 ∙ rw (z, append-nil)

  pub levels_one : (m : ℕ) → levels_from f 0 (m + 1) ≡ levels_from f 0 m ++ level_at (f m)
  unfolding levels_from
  levels_one m = let z : 0 + m ≡ m = omega arith in levels_add 0 m 1 ∙ rw (z, append-nil)

  -- as many levels as columns
  pub same_count : (c d : ℕ) → length (columns_from f c d) ≡ length (levels_from f c d)
  unfolding columns_from levels_from
  same_count c zero = refl
  same_count c (suc d) = go (f c) _ _ (same_count (suc c) d)
    where
      go : (o : Option ℕ) (x y : List ℕ) → length x ≡ length y → length (column_at o c ++ x) ≡ length (level_at o ++ y)
      go none x y h = h
      go (some l) x y h = ap suc h

  -- fewer columns, no more of them
  pub fewer : (m n : ℕ) → m ≤ n → length (columns_from f 0 m) ≤ length (columns_from f 0 n)
  fewer m n h =
      let e : m + (n - m) ≡ n = omega arith in
      omega (arith, ap length (columns_add 0 m (n - m)), length-append (columns_from f 0 m) (columns_from f (0 + m) (n - m)), ap (λ (x : ℕ). length (columns_from f 0 x)) e)

  pub few : (c d : ℕ) → length (columns_from f c d) ≤ d
  unfolding columns_from
  few c zero = omega arith
  few c (suc d) = go (f c) _ (few (suc c) d)
    where
      go : (o : Option ℕ) (x : List ℕ) → length x ≤ d → length (column_at o c ++ x) ≤ suc d
      go none x h = omega arith
      go (some l) x h = omega arith

  -- each of them is below the bound
  pub columns_below : (c d e : ℕ) → e < length (columns_from f c d) → get_or (columns_from f c d) e 0 < c + d
  unfolding columns_from
  columns_below c zero e h = absurd (not-suc-le-zero h)
  columns_below c (suc d) e h = let q : c + suc d ≡ suc c + d = omega arith in rw q (go (f c) (columns_from f (suc c) d) e h (λ x l. columns_below (suc c) d x l))
    where
      go : (o : Option ℕ) (x : List ℕ) (e : ℕ) → e < length (column_at o c ++ x) → ((y : ℕ) → y < length x → get_or x y 0 < suc c + d)
          → get_or (column_at o c ++ x) e 0 < suc c + d
      go none x e h r = r e h
      go (some l) x zero h r = omega arith
      go (some l) x (suc e) h r = r e (le_of_suc-le-suc h)

-- only the levels from c on count
pub columns_same : (f g : ℕ → Option ℕ) (c d : ℕ) → ((j : ℕ) → c ≤ j → j < c + d → f j ≡ g j) → columns_from f c d ≡ columns_from g c d
unfolding columns_from
columns_same f g c zero h = refl
columns_same f g c (suc d) h = rw (h c (omega arith) (omega arith), columns_same f g (suc c) d (λ j a b. h j (omega arith) (omega arith)))

pub levels_same : (f g : ℕ → Option ℕ) (c d : ℕ) → ((j : ℕ) → c ≤ j → j < c + d → f j ≡ g j) → levels_from f c d ≡ levels_from g c d
unfolding levels_from
levels_same f g c zero h = refl
levels_same f g c (suc d) h = rw (h c (omega arith) (omega arith), levels_same f g (suc c) d (λ j a b. h j (omega arith) (omega arith)))

module _ (k i a : ℕ) (cs ls : List ℕ) where
  pub spread_more : (e : ℕ) (row z row' : List ℕ) → length cs ≡ length ls → e < length cs → z ≡ spread_all k i a (drop e cs) (drop e ls) row
      → row' ≡ spread_one k i a (get_or cs e 0) (get_or ls e 0) row → z ≡ spread_all k i a (drop (e + 1) cs) (drop (e + 1) ls) row'
  unfolding spread_all
  spread_more e row z row' s h inv q =
      let h' : e < length ls = omega arith in
      inv ∙ rw (drop-cons cs e 0 h, drop-cons ls e 0 h', add-one, q)

  pub spread_end : (e : ℕ) (row z : List ℕ) → length cs ≤ e → z ≡ spread_all k i a (drop e cs) (drop e ls) row → row ≡ z
  unfolding spread_all
  spread_end e row z h inv = sym (inv ∙ rw (drop_of_length-le cs h))

pub over_none : (s : List ℕ) → s ≡ over [] s
unfolding over
over_none s = refl

pub length_over : (l s : List ℕ) → length l ≤ length s → length (over l s) ≡ length s
unfolding over
length_over l s h = simp (length-append, length-drop) (omega arith)

-- one word more
pub over_more : (l s : List ℕ) (x : ℕ) → length l < length s → set (over l s) (length l) x ≡ over (l ++ (x ∷ [])) s
unfolding over
over_more l s x h =
    let e : length (l ++ (x ∷ [])) ≡ suc (length l) = simp length-append (omega arith) in
    rw (drop-cons s (length l) 0 h, set-append_seam l (get_or s (length l) 0) (drop (suc (length l)) s) x, e) (sym (append_snoc l x (drop (suc (length l)) s)))

-- written after what stands there
pub over_add : (l m s : List ℕ) → length l ≤ length s → take (length l) (over l s) ++ over m (drop (length l) (over l s)) ≡ over (l ++ m) s
unfolding over
over_add l m s h =
    rw (take-append_seam l (drop (length l) s), drop-append_seam l (drop (length l) s), drop-drop (length m) (length l) s, length-append l m, append_assoc l m (drop (length l + length m) s))

pub zeros_more : (n i : ℕ) (s : List ℕ) → i < length s → n ≡ length s → set (replicate i 0 ++ drop i s) i 0 ≡ replicate (i + 1) 0 ++ drop (i + 1) s
zeros_more n i s h e =
    let q : replicate i 0 ++ (0 ∷ drop (suc i) s) ≡ replicate (suc i) 0 ++ drop (suc i) s = shift i (drop (suc i) s) in
    rw (drop-cons s i 0 h, add-one) (at i (get_or s i 0) (drop (suc i) s) ∙ q)
  where
    at : (i y : ℕ) (t : List ℕ) → set (replicate i 0 ++ (y ∷ t)) i 0 ≡ replicate i 0 ++ (0 ∷ t)
    at zero y t = refl
    at (suc i) y t = ap (λ (u : List ℕ). 0 ∷ u) (at i y t)

    shift : (i : ℕ) (t : List ℕ) → replicate i 0 ++ (0 ∷ t) ≡ 0 ∷ (replicate i 0 ++ t)
    shift zero t = refl
    shift (suc i) t = ap (λ (u : List ℕ). 0 ∷ u) (shift i t)

pub zeros_end : (i : ℕ) (s : List ℕ) → i ≡ length s → replicate i 0 ++ drop i s ≡ replicate (length s) 0
zeros_end i s e = rw (e, drop_of_length-le s {i = length s} (omega arith), append-nil)
