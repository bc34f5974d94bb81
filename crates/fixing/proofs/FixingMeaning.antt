-- What fixing means, value by value: each value of the diagonal and of the entries of a valid pattern is afterwards what document 01 makes of it.
-- Assumes nothing.
use mathlib.Core.Path.{◌≡◌, refl, sym, ap, subst, ◌∙◌}
use mathlib.Core.Logic.{◌⊎◌, inl, inr, ⊎_elim}
use mathlib.Core.List.{List, [], ◌∷◌}
use mathlib.Core.Bool.{true}
use Prim.Native.Nat.{ℕ, zero, suc, ◌+◌, ◌-◌, ◌*◌, ◌/◌, ◌%◌, ◌≤◌, ◌<◌}
use native.Mathlib.Nat.{not-suc-le-zero, le_of_suc-le-suc, eq-or-lt_of_le, mul-le-mul_left}
use native.Mathlib.Numerals.{add-one}
use native.Mathlib.Omega.{arith}
use lib.IntN.{ℤ}
use lib.ListN.{length, get_or}
use lib.Ieee.{Float, Format}
use borrow.Author.Tests.{eqb-true}
use Rattle.base.specs.Iterate.{iterate}
use Rattle.base.proofs.Iterate.{iterate_keeps}
use Rattle.base.proofs.Sizes.{part_fits}
use Rattle.blocks.specs.Block.{element}
use Rattle.blocks.specs.Lent.{values_at, block_at, put_at}
use Rattle.blocks.proofs.LentLaws.{length_put, put_same, put_before, put_after}
use Rattle.patterns.specs.Pattern.{rows_of, row_of, first_is_zero, valid_pattern, valid_offsets}
use Rattle.patterns.proofs.Use.{pattern_entries, valid_offsets_lem, offset_first, offset_last, row_ends, row_length, row_column}
use Rattle.fixing.specs.Fixing.{is_fixed, diagonal_value, fixed_diagonal, entry_value, fixed_entry, fix_diagonal_at, fix_diagonal, fix_entry_at, fix_entry, fix_entries, fix_row, fix_values}
use Rattle.blocks.proofs.ListedLaws.{length_listed}
use Rattle.fixing.proofs.BlockLaws.{element_of}

-- From place `first` on m parts of B values each were replaced by what `made` makes of them, and no other part has changed.
record Replaced (B first m : ℕ) (made : ℕ → List Float → List Float) (old new : List Float) : Type 0 where
  long : length new ≡ length old
  inside : (k : ℕ) → k < m → values_at B new (B * (first + k)) ≡ made k (values_at B old (B * (first + k)))
  before : (e : ℕ) → e < first → values_at B new (B * e) ≡ values_at B old (B * e)
  later : (e : ℕ) → first + m ≤ e → B * e + B ≤ length old → values_at B new (B * e) ≡ values_at B old (B * e)

-- A loop whose turn k puts a part back at place first + k has that effect.
module _ (B first count : ℕ) (made step : ℕ → List Float → List Float) (sized : (k : ℕ) (b : List Float) → length (made k b) ≡ B)
    (puts : (k : ℕ) (t : List Float) → step k t ≡ put_at (B * (first + k)) (made k (values_at B t (B * (first + k)))) t) (old : List Float)
    (fits : B * (first + count) ≤ length old) where
  replaced_more : (m : ℕ) (t : List Float) → 0 ≤ m → m < count → Replaced B first m made old t → Replaced B first (m + 1) made old (step m t)
  replaced_more m t _ below so =
      let p = B * (first + m) in
      let new = made m (values_at B t p) in
      let wide : length new ≡ B = sized m (values_at B t p) in
      let part : p + B ≤ length old = part_fits B (first + m) (first + count) (length old) (omega arith) fits in
      let room : p + length new ≤ length t = omega (arith, wide, so.long, part) in
      let written : values_at B (put_at p new t) p ≡ new = rw wide at (put_same p new t room) in
      let unchanged : values_at B t p ≡ values_at B old p = so.later (first + m) (omega arith) part in
      rw (puts m t)
      (record {
        long = length_put p new t room ∙ so.long;
        inside =
            λ k l. ⊎_elim (λ e. rw e (written ∙ ap (made m) unchanged))
            (λ h. put_before p new t room (B * (first + k)) B (part_fits B (first + k) (first + m) p (omega arith) (omega arith)) ∙ so.inside k h)
            (eq-or-lt_of_le (le_of_suc-le-suc (rw add-one at l)));
        before = λ e h. put_before p new t room (B * e) B (part_fits B e (first + m) p (omega arith) (omega arith)) ∙ so.before e h;
        later =
            λ e h w. put_after p new t room (B * e) B (omega (arith, wide, part_fits B (first + m) e (B * e) (omega arith) (omega arith))) (omega (arith, w, so.long))
            ∙ so.later e (omega arith) w;
      })

  replaced_all : Replaced B first count made old (iterate step 0 count old)
  replaced_all =
      iterate_keeps step (λ m t. Replaced B first m made old t) 0 old count (omega arith)
      (record { long = refl; inside = λ k l. absurd (not-suc-le-zero l); before = λ e h. refl; later = λ e h w. refl }) replaced_more

-- The diagonal.
module _ (f : Format) (n : ℕ) (valDia : Float) (flags : List ℤ) (rows : ℕ) (diagonal : List Float) (fits : length diagonal ≡ n * n * rows) where
  diagonal_replaced : Replaced (n * n) 0 rows (λ i a. fixed_diagonal f n valDia (is_fixed n flags i) a) diagonal (fix_diagonal f n valDia flags rows diagonal)
  unfolding fix_diagonal fix_diagonal_at
  diagonal_replaced =
      replaced_all (n * n) 0 rows (λ i a. fixed_diagonal f n valDia (is_fixed n flags i) a) (λ i. fix_diagonal_at f n valDia (is_fixed n flags i) i)
      (λ k b. length_listed (n * n) (λ j. diagonal_value f valDia (is_fixed n flags k) (j % n) (j / n) (element n b (j % n) (j / n))))
      (λ k t. let e : 0 + k ≡ k = omega arith in rw e) diagonal (omega (arith, fits))

  pub diagonal_long : length (fix_diagonal f n valDia flags rows diagonal) ≡ length diagonal
  diagonal_long = diagonal_replaced.long

  -- value (r, c) of block i is afterwards what its row's fixed values make of it
  pub diagonal_meaning : (i r c : ℕ) → i < rows → r < n → c < n
      → element n (block_at n (fix_diagonal f n valDia flags rows diagonal) i) r c ≡ diagonal_value f valDia (is_fixed n flags i) r c (element n (block_at n diagonal i) r c)
  diagonal_meaning i r c h a b =
      let e : 0 + i ≡ i = omega arith in
      ap (λ (l : List Float). element n l r c) (rw e at (diagonal_replaced.inside i h))
      ∙ element_of n (λ x y. diagonal_value f valDia (is_fixed n flags i) x y (element n (block_at n diagonal i) x y)) r c a b

-- Every place of the columns is one of a row.
pub record Placed (o cs : List ℕ) (e : ℕ) : Type 0 where
  pub row : ℕ
  pub at : ℕ
  pub below : row < rows_of o
  pub inside : at < length (row_of o cs row)
  pub is : e ≡ get_or o row 0 + at

less_or_past : (a b : ℕ) → (a < b) ⊎ (b ≤ a)
less_or_past a zero = inr (omega arith)
less_or_past zero (suc b) = inl (omega arith)
less_or_past (suc a) (suc b) = ⊎_elim (λ p. inl (omega (arith, p))) (λ q. inr (omega (arith, q))) (less_or_past a b)

module _ (o cs : List ℕ) (valid : valid_pattern o cs ≡ true) (e : ℕ) where
  straight : valid_offsets o cs ≡ true
  straight = valid_offsets_lem o cs (pattern_entries o cs valid)

  starts : (l : List ℕ) → first_is_zero l ≡ true → get_or l 0 0 ≡ 0
  unfolding first_is_zero
  starts [] zero_is = refl
  starts (x ∷ l) zero_is = eqb-true x 0 zero_is

  placed_in : (m : ℕ) → m < rows_of o → get_or o m 0 ≤ e → e < get_or o (m + 1) 0 → Placed o cs e
  placed_in m h past before =
      record {
        row = m;
        at = e - get_or o m 0;
        below = h;
        inside = omega (arith, past, before, row_length o cs straight m h);
        is = omega (arith, past);
      }

  placed_below : (m : ℕ) → m ≤ rows_of o → e < get_or o m 0 → Placed o cs e
  placed_below zero h l = absurd (omega (arith, l, starts o (offset_first o cs straight)))
  placed_below (suc m) h l =
      ⊎_elim (λ less. placed_below m (omega arith) less) (λ past. placed_in m (omega arith) past (rw add-one l)) (less_or_past e (get_or o m 0))

  pub placed : e < length cs → Placed o cs e
  placed below = placed_below (rows_of o) (omega arith) (rw (offset_last o cs straight) below)

-- The entries of a valid pattern.
module _ (f : Format) (n : ℕ) (flags : List ℤ) (o cs : List ℕ) (values : List Float) (valid : valid_pattern o cs ≡ true) (fits : length values ≡ n * n * length cs) where
  ordered : valid_offsets o cs ≡ true
  ordered = valid_offsets_lem o cs (pattern_entries o cs valid)

  -- what becomes of the block of entry k of row i
  abbrev entry_made : ℕ → ℕ → List Float → List Float
  entry_made i k a = fixed_entry f n (is_fixed n flags i) (is_fixed n flags (get_or (row_of o cs i) k 0)) a

  row_replaced : (i : ℕ) → i < rows_of o → (t : List Float) → length t ≡ length values
      → Replaced (n * n) (get_or o i 0) (length (row_of o cs i)) (entry_made i) t (fix_row f n flags o cs i t)
  unfolding fix_row fix_entries fix_entry fix_entry_at
  row_replaced i h t long =
      let ends = row_ends o cs ordered i h in
      let e : get_or o i 0 + length (row_of o cs i) ≡ get_or o (i + 1) 0 = row_length o cs ordered i h in
      replaced_all (n * n) (get_or o i 0) (length (row_of o cs i)) (entry_made i) (fix_entry f n flags i (row_of o cs i) (get_or o i 0))
      (λ k b. length_listed (n * n) (λ j. entry_value f (is_fixed n flags i) (is_fixed n flags (get_or (row_of o cs i) k 0)) (j % n) (j / n) (element n b (j % n) (j / n))))
      (λ k s. refl) t (rw e (omega (arith, long, fits, mul-le-mul_left (n * n) ends.1)))

  -- The first m rows are done, and the entries after them are as they were.
  record Done (m : ℕ) (t : List Float) : Type 0 where
    long : length t ≡ length values
    made : (i k : ℕ) → i < m → k < length (row_of o cs i) → (get_or o i 0 + k < get_or o m 0)
        × (values_at (n * n) t (n * n * (get_or o i 0 + k)) ≡ entry_made i k (values_at (n * n) values (n * n * (get_or o i 0 + k))))
    rest : (e : ℕ) → get_or o m 0 ≤ e → e < length cs → values_at (n * n) t (n * n * e) ≡ values_at (n * n) values (n * n * e)

  module _ (m : ℕ) (t : List Float) (h : m < rows_of o) (so : Done m t) where
    next : Replaced (n * n) (get_or o m 0) (length (row_of o cs m)) (entry_made m) t (fix_row f n flags o cs m t)
    next = row_replaced m h t so.long

    ends : (get_or o m 0 ≤ get_or o (m + 1) 0) × (get_or o (m + 1) 0 ≤ length cs)
    ends = row_ends o cs ordered m h

    full : get_or o m 0 + length (row_of o cs m) ≡ get_or o (m + 1) 0
    full = row_length o cs ordered m h

    room : (e : ℕ) → e < length cs → n * n * e + n * n ≤ length t
    room e l = part_fits (n * n) e (length cs) (length t) l (omega (arith, fits, so.long))

    -- row m itself, and a row before it
    now_made : (k : ℕ) → k < length (row_of o cs m) → (get_or o m 0 + k < get_or o (m + 1) 0)
        × (values_at (n * n) (fix_row f n flags o cs m t) (n * n * (get_or o m 0 + k)) ≡ entry_made m k (values_at (n * n) values (n * n * (get_or o m 0 + k))))
    now_made k l = (
      omega (arith, full, l),
      next.inside k l ∙ ap (entry_made m k) (so.rest (get_or o m 0 + k) (omega arith) (omega (arith, full, ends, l))),
    )

    still_made : (i k : ℕ) → i < m → k < length (row_of o cs i) → (get_or o i 0 + k < get_or o (m + 1) 0)
        × (values_at (n * n) (fix_row f n flags o cs m t) (n * n * (get_or o i 0 + k)) ≡ entry_made i k (values_at (n * n) values (n * n * (get_or o i 0 + k))))
    still_made i k less l =
        let was = so.made i k less l in
        (omega (arith, was.0, ends), next.before (get_or o i 0 + k) was.0 ∙ was.1)

    done_next : Done (m + 1) (fix_row f n flags o cs m t)
    done_next =
        record {
          long = next.long ∙ so.long;
          made =
              λ i k b l. ⊎_elim (λ same. rw same (now_made k (rw same at l))) (λ less. still_made i k less l)
              (eq-or-lt_of_le (le_of_suc-le-suc (rw add-one at b)));
          rest = λ e a l. next.later e (omega (arith, full, a)) (room e l) ∙ so.rest e (omega (arith, a, ends)) l;
        }

  all_done : Done (rows_of o) (fix_values f n flags o cs values)
  unfolding fix_values
  all_done =
      iterate_keeps (fix_row f n flags o cs) Done 0 values (rows_of o) (omega arith)
      (record { long = refl; made = λ i k b l. absurd (not-suc-le-zero b); rest = λ e a l. refl }) (λ m t _ h so. done_next m t h so)

  pub values_long : length (fix_values f n flags o cs values) ≡ length values
  values_long = all_done.long

  -- value (r, c) of entry k of row i, whose column stands at place e, is afterwards what the fixed values of its row and of its column make of it
  pub entry_meaning : (i k r c : ℕ) → i < rows_of o → k < length (row_of o cs i) → r < n → c < n →
      let e = get_or o i 0 + k in
      element n (block_at n (fix_values f n flags o cs values) e) r c
      ≡ entry_value f (is_fixed n flags i) (is_fixed n flags (get_or cs e 0)) r c (element n (block_at n values e) r c)
  entry_meaning i k r c h l a b =
      let e = get_or o i 0 + k in
      ap (λ (v : List Float). element n v r c) (all_done.made i k h l).1
      ∙ element_of n (λ x y. entry_value f (is_fixed n flags i) (is_fixed n flags (get_or (row_of o cs i) k 0)) x y (element n (block_at n values e) x y)) r c a b
      ∙ ap (λ (j : ℕ). entry_value f (is_fixed n flags i) (is_fixed n flags j) r c (element n (block_at n values e) r c)) (row_column o cs ordered i k h l)

  -- So it is with the entry at every place.
  pub every_entry : (e r c : ℕ) → e < length cs → r < n → c < n → (p : Placed o cs e)
      × (element n (block_at n (fix_values f n flags o cs values) e) r c
      ≡ entry_value f (is_fixed n flags p.row) (is_fixed n flags (get_or cs e 0)) r c (element n (block_at n values e) r c))
  every_entry e r c l a b =
      let p = placed o cs valid e l in (
        p,
        subst
            (λ (x : ℕ). element n (block_at n (fix_values f n flags o cs values) x) r c ≡ entry_value f (is_fixed n flags p.row) (is_fixed n flags (get_or cs x 0)) r c (element n (block_at n values x) r c))
            (sym p.is) (entry_meaning p.row p.at r c p.below p.inside a b),
      )
