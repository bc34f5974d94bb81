-- The loop over the rows.
-- Assumes nothing.
use mathlib.Core.Path.{◌≡◌, refl, sym, ap, ◌∙◌}
use mathlib.Core.List.{List, [], ◌∷◌, ◌++◌, append_assoc}
use mathlib.Core.Bool.{true, false}
use mathlib.Core.Option.{none}
use Prim.Native.Nat.{ℕ, zero, suc, ◌+◌, ◌-◌, ◌≤◌, ◌<◌}
use native.Mathlib.Nat.{not-suc-le-zero, le_of_suc-le-suc}
use native.Mathlib.Numerals.{add-one}
use native.Mathlib.Omega.{arith}
use lib.ListN.{length, get_or, set, take, drop, replicate, length-append, length-set, length-replicate}
use lib.Seq.{take_at, drop_at, set-set}
use borrow.Author.Tests.{eq-eqb, le-leb, lt-leb}
use Rattle.base.specs.Each.{each, each_to}
use Rattle.base.proofs.Each.{each_none, each_more, each_all, length_each_to, cons_same}
use Rattle.walks.specs.Levels.{Pattern, level_of}
use Rattle.patterns.specs.Pattern.{rows_of, valid_pattern}
use Rattle.fill.specs.Fill.{stored, columns_from, levels_from, fill_columns, fill_levels, start_of, split_at, listed}
use Rattle.fill.specs.Steps.{levels_in, Levelled, over, put, Upper, Written, Worked, RowReady, PutFits, Going, Filled}
use Rattle.fill.proofs.Lists.{columns_add, levels_add, columns_same, levels_same, same_count, over_none, length_over, over_add}
use Rattle.fill.proofs.JoinedLaws.{joined_behind, fill_row, fill_joined, levels_joined}
use Rattle.fill.proofs.SpanLaws.{columns_after_lem}
use Rattle.fill.proofs.RowLaws.{row_level, row_small}

get_d_done : (f : ℕ → ℕ → ℕ) (m : ℕ) (l : List ℕ) (i d : ℕ) → i < m → i < length l → get_or (each_to f m l) i d ≡ f i (get_or l i d)
unfolding each each_to
get_d_done f zero l i d h b = absurd (not-suc-le-zero h)
get_d_done f (suc m) [] i d h b = absurd (not-suc-le-zero b)
get_d_done f (suc m) (x ∷ l) zero d h b = refl
get_d_done f (suc m) (x ∷ l) (suc i) d h b = get_d_done (λ k. f (suc k)) m l i d (le_of_suc-le-suc h) (le_of_suc-le-suc b)

pub listed_same : (f g : ℕ → ℕ) (c e d : ℕ) → ((i : ℕ) → f (c + i) ≡ g (e + i)) → listed f c d ≡ listed g e d
unfolding listed
listed_same f g c e zero h = refl
listed_same f g c e (suc d) h =
    let z : c + 0 ≡ c = omega arith in
    let z' : e + 0 ≡ e = omega arith in
    cons_same (rw (z, z') at (h 0)) (listed_same f g (suc c) (suc e) d (λ i.
    let y : suc c + i ≡ c + suc i = omega arith in
    let y' : suc e + i ≡ e + suc i = omega arith in
    rw (y, y') (h (suc i))))

pub each_listed : (f : ℕ → ℕ) (l : List ℕ) → each (λ i _. f i) l ≡ listed f 0 (length l)
unfolding each listed
each_listed f [] = refl
each_listed f (x ∷ l) = cons_same refl (each_listed (λ i. f (suc i)) l ∙ listed_same (λ i. f (suc i)) f 0 1 (length l) (λ i.
    let y : 0 + i ≡ i = omega arith in
    let y' : 1 + i ≡ suc i = omega arith in
    rw (y, y')))

pub part_of : (F L U R D S : List ℕ) (s e : ℕ) → S ≡ (F ++ ((L ++ U) ++ R)) ++ D → s ≡ length F + length L → e ≡ s + length U → (take (e - s) (drop s S) ≡ U) × (e ≤ length S)
part_of F L U R D S s e q es ee =
    let r : S ≡ (F ++ L) ++ (U ++ (R ++ D)) = q ∙ simp append_assoc in
    let x : length (F ++ L) ≡ s = length-append F L ∙ sym es in
    let y : length U ≡ e - s = omega arith in (
      rw (r, drop_at (F ++ L) (U ++ (R ++ D)) s x, take_at U (R ++ D) (e - s) y),
      omega (arith, ap length r, length-append (F ++ L) (U ++ (R ++ D)), length-append U (R ++ D), x),
    )

module _ (A : Pattern) (k n : ℕ) where
  -- a row has no level at its own column
  pub own_none : (p : ℕ) → level_of A k p p ≡ none
  unfolding level_of
  own_none p = rw (eq-eqb p p refl)

  -- a row is its lower and its upper part
  pub row_columns : (p : ℕ) → p < n → columns_from (level_of A k p) 0 n ≡ columns_from (level_of A k p) 0 p ++ columns_from (level_of A k p) (p + 1) (n - (p + 1))
  unfolding columns_from
  row_columns p h =
      let e : n ≡ p + suc (n - (p + 1)) = omega arith in
      let z : 0 + p ≡ p = omega arith in
      ap (λ (m : ℕ). columns_from (level_of A k p) 0 m) e ∙ columns_add (level_of A k p) 0 p (suc (n - (p + 1))) ∙ rw (z, own_none p, add-one)

  row_levels_lem : (p : ℕ) → p < n → levels_from (level_of A k p) 0 n ≡ levels_from (level_of A k p) 0 p ++ levels_from (level_of A k p) (p + 1) (n - (p + 1))
  unfolding levels_from
  row_levels_lem p h =
      let e : n ≡ p + suc (n - (p + 1)) = omega arith in
      let z : 0 + p ≡ p = omega arith in
      ap (λ (m : ℕ). levels_from (level_of A k p) 0 m) e ∙ levels_add (level_of A k p) 0 p (suc (n - (p + 1))) ∙ rw (z, own_none p, add-one)

  -- the columns of row p stand behind those of the rows before it
  pub behind : (p i : ℕ) → p < i → (R : List ℕ) × (fill_columns A k n i ≡ fill_columns A k n p ++ (columns_from (level_of A k p) 0 n ++ R))
  behind p i h = rw (fill_joined A k n i, fill_joined A k n p) (joined_behind (fill_row A k n) p i h)

  behind_levels : (p i : ℕ) → p < i → (R : List ℕ) × (fill_levels A k n i ≡ fill_levels A k n p ++ (levels_from (level_of A k p) 0 n ++ R))
  behind_levels p i h = rw (levels_joined A k n i, levels_joined A k n p) (joined_behind (λ r. levels_from (level_of A k r) 0 n) p i h)

  -- as many levels as columns
  levels_count : (i : ℕ) → length (fill_levels A k n i) ≡ start_of A k n i
  unfolding start_of fill_columns fill_levels
  levels_count zero = refl
  levels_count (suc i) =
      omega (
        arith,
        length-append (fill_levels A k n i) (levels_from (level_of A k i) 0 n),
        length-append (fill_columns A k n i) (columns_from (level_of A k i) 0 n),
        levels_count i,
        same_count (level_of A k i) 0 n,
      )

  -- where the next row begins
  pub start_more : (i : ℕ) → start_of A k n (i + 1) ≡ start_of A k n i + length (columns_from (level_of A k i) 0 n)
  unfolding start_of fill_columns
  start_more i = rw add-one (length-append (fill_columns A k n i) (columns_from (level_of A k i) 0 n))

  start_le : (i j : ℕ) → i < j → start_of A k n i + length (columns_from (level_of A k i) 0 n) ≤ start_of A k n j
  unfolding start_of
  start_le i j h =
      let b = behind i j h in
      omega (arith, ap length b.1, length-append (fill_columns A k n i) (columns_from (level_of A k i) 0 n ++ b.0), length-append (columns_from (level_of A k i) 0 n) b.0)

  -- the upper part of row p, where i rows are written
  upper_at : (i p : ℕ) (cs₀ ls₀ : List ℕ) → p < i → i ≤ n → Upper A k n p (split_at A k n p) (start_of A k n (p + 1)) (over (fill_columns A k n i) cs₀) (over (fill_levels A k n i) ls₀)
  unfolding split_at start_of over
  upper_at i p cs₀ ls₀ h m =
      let f = level_of A k p in
      let b = behind p i h in
      let b' = behind_levels p i h in
      let U = columns_from f (p + 1) (n - (p + 1)) in
      let r = row_columns p (omega arith) in
      let r' = row_levels_lem p (omega arith) in
      let len : length (columns_from f 0 n) ≡ length (columns_from f 0 p) + length U = ap length r ∙ length-append (columns_from f 0 p) U in
      let e : start_of A k n (p + 1) ≡ split_at A k n p + length U = omega (arith, start_more p, len) in
      let Q = levels_from f (p + 1) (n - (p + 1)) in
      let q : fill_columns A k n i ≡ fill_columns A k n p ++ ((columns_from f 0 p ++ U) ++ b.0) = b.1 ∙ rw r in
      let q' : fill_levels A k n i ≡ fill_levels A k n p ++ ((levels_from f 0 p ++ Q) ++ b'.0) = b'.1 ∙ rw r' in
      let x = part_of (fill_columns A k n p) (columns_from f 0 p) U b.0 (drop (length (fill_columns A k n i)) cs₀) (over (fill_columns A k n i) cs₀)
      (split_at A k n p) (start_of A k n (p + 1)) (ap (λ (t : List ℕ). t ++ drop (length (fill_columns A k n i)) cs₀) q) refl e in
      let x' = part_of (fill_levels A k n p) (levels_from f 0 p) (levels_from f (p + 1) (n - (p + 1))) b'.0 (drop (length (fill_levels A k n i)) ls₀) (over (fill_levels A k n i) ls₀)
      (split_at A k n p) (start_of A k n (p + 1)) (ap (λ (t : List ℕ). t ++ drop (length (fill_levels A k n i)) ls₀) q')
      (omega (arith, levels_count p, same_count f 0 p)) (omega (arith, e, same_count f (p + 1) (n - (p + 1)))) in
      record { ordered = omega (arith, e); in_columns = x.1; in_levels = x'.1; columns = x.0; levels = x'.0 }

  pub going_start : (o o₀ cs ss ls row : List ℕ) → length o ≡ n + 1 → length ss ≡ n → length ls ≡ length cs → o₀ ≡ set o 0 0 → row ≡ replicate n 0
      → Going A k n 0 0 o₀ cs ss ls o₀ cs ss ls row
  unfolding start_of fill_columns fill_levels
  going_start o o₀ cs ss ls row lo lss lls e er = record {
    rows = omega arith;
    offsets_long = ap length e ∙ length-set o 0 0 ∙ lo;
    splits_long = lss;
    levels_long = lls;
    at_is = refl;
    fits = omega arith;
    offsets_are = first;
    splits_are = sym (each_none (λ r _. split_at A k n r) ss);
    columns_are = over_none cs;
    levels_are = over_none ls;
    clear = er;
  }
    where
      f : ℕ → ℕ → ℕ
      f r x = start_of A k n r

      first : o₀ ≡ each_to f (0 + 1) o₀
      first =
          let h : 0 < length o₀ = omega (arith, ap length e, length-set o 0 0) in
          let z : set o₀ 0 0 ≡ o₀ = rw e (set-set o 0 0 0) in
          sym z ∙ rw (each_none f o₀) at (each_more f 0 o₀ 0 h)

  module _ {i at : ℕ} {o₀ cs₀ ss₀ ls₀ o cs ss ls row : List ℕ} (G : Going A k n i at o₀ cs₀ ss₀ ls₀ o cs ss ls row) where
    pub going_offsets_long : length o ≡ n + 1
    going_offsets_long = ap length G.offsets_are ∙ length_each_to (λ r _. start_of A k n r) (i + 1) o₀ ∙ G.offsets_long

    pub going_splits_long : length ss ≡ n
    going_splits_long = ap length G.splits_are ∙ length_each_to (λ r _. split_at A k n r) i ss₀ ∙ G.splits_long

    pub going_columns_long : length cs ≡ length cs₀
    unfolding start_of
    going_columns_long = ap length G.columns_are ∙ length_over (fill_columns A k n i) cs₀ (omega (arith, G.at_is, G.fits))

    pub going_levels_long : length ls ≡ length cs₀
    going_levels_long = ap length G.levels_are ∙ length_over (fill_levels A k n i) ls₀ (omega (arith, levels_count i, G.at_is, G.fits, G.levels_long)) ∙ G.levels_long

    -- the rows before i are written
    pub going_written : Written A k n i o cs ss ls
    going_written = record {
      offsets_long = going_offsets_long;
      splits_long = going_splits_long;
      upper = λ p h.
          let es : get_or ss p 0 ≡ split_at A k n p = rw G.splits_are (get_d_done (λ r _. split_at A k n r) i ss₀ p 0 h (omega (arith, G.splits_long, G.rows))) in
          let eo : get_or o (p + 1) 0 ≡ start_of A k n (p + 1) =
          rw G.offsets_are (get_d_done (λ r _. start_of A k n r) (i + 1) o₀ (p + 1) 0 (omega arith) (omega (arith, G.offsets_long, G.rows))) in
          rw (es, eo, G.columns_are, G.levels_are) (upper_at i p cs₀ ls₀ h G.rows);
    }

    module _ (low high : ℕ) (row₁ : List ℕ) (K : Worked A k n i low high row₁) (hi : i < n) where
      L : Levelled A k n i i row₁
      L = K.levelled

      same_columns : (m : ℕ) → m ≤ n → columns_from (levels_in row₁) 0 m ≡ columns_from (level_of A k i) 0 m
      same_columns m h = columns_same (levels_in row₁) (level_of A k i) 0 m (λ j _ b. row_level A k n i row₁ L j (omega arith))

      same_levels : levels_from (levels_in row₁) 0 n ≡ levels_from (level_of A k i) 0 n
      same_levels = levels_same (levels_in row₁) (level_of A k i) 0 n (λ j _ b. row_level A k n i row₁ L j (omega arith))

      -- the marks below the span's end are all
      counted : (all : ℕ) → all ≡ length (columns_from (levels_in row₁) 0 high) → all ≡ length (columns_from (levels_in row₁) 0 (length row₁))
      counted all ea = ea ∙ ap length (columns_after_lem row₁ high high (length row₁) K.within.after (omega arith) (omega (arith, L.long, K.in_row)))

      -- it does not fit
      pub going_full : (all : ℕ) (o' cs' ss' ls' row' : List ℕ) → all ≡ length (columns_from (levels_in row₁) 0 high) → length cs - at < all → Filled A k n cs₀ ls₀ false o' cs' ss' ls' row'
      going_full all o' cs' ss' ls' row' ea h =
          let c : columns_from (levels_in row₁) 0 (length row₁) ≡ columns_from (level_of A k i) 0 n = rw L.long (same_columns n (omega arith)) in
          record {
            answer = sym (lt-leb (start_of A k n n) (length cs₀) (omega (arith, counted all ea, ap length c, start_le i n hi, G.at_is, G.fits, going_columns_long)));
            done = λ e. let z : ◌≡◌ {A = ℕ} 0 1 = cc in absurd (omega arith);
          }

      -- it fits
      pub going_fits : (all : ℕ) → all ≡ length (columns_from (levels_in row₁) 0 high) → all ≤ length cs - at → n ≤ 65536 → length cs₀ ≤ 65535
          → PutFits i at all low high o cs ss ls row₁
      going_fits all ea h few room = record {
        in_row = omega (arith, L.long);
        few = omega (arith, L.long);
        offsets_long = going_offsets_long ∙ ap (λ (x : ℕ). x + 1) (sym L.long);
        splits_long = going_splits_long ∙ sym L.long;
        levels_long = going_levels_long ∙ sym going_columns_long;
        room = omega (arith, going_columns_long);
        small = λ j b. row_small A k n i row₁ L j (omega (arith, L.long));
        within = K.within;
        ordered = K.ordered;
        span_in_row = omega (arith, L.long, K.in_row);
        all_is = counted all ea;
        fits = omega (arith, h, G.fits, going_columns_long);
      }

      pub going_more : (all : ℕ) (o' cs' ss' ls' row' : List ℕ) → all ≡ length (columns_from (levels_in row₁) 0 high) → all ≤ length cs - at
          → cs' ≡ put at (columns_from (levels_in row₁) 0 (length row₁)) cs → ls' ≡ put at (levels_from (levels_in row₁) 0 (length row₁)) ls
          → ss' ≡ set ss i (at + length (columns_from (levels_in row₁) 0 i)) → o' ≡ set o (i + 1) (at + all)
          → row' ≡ replicate (length row₁) 0 → Going A k n (i + 1) (at + all) o₀ cs₀ ss₀ ls₀ o' cs' ss' ls' row'
      unfolding put start_of split_at fill_columns fill_levels
      going_more all o' cs' ss' ls' row' ea h ec el es eo er =
          let F = fill_columns A k n i in
          let M = fill_levels A k n i in
          let c : columns_from (levels_in row₁) 0 (length row₁) ≡ columns_from (level_of A k i) 0 n = rw L.long (same_columns n (omega arith)) in
          let v : levels_from (levels_in row₁) 0 (length row₁) ≡ levels_from (level_of A k i) 0 n = rw L.long same_levels in
          let next : at + all ≡ start_of A k n (i + 1) = omega (arith, start_more i, counted all ea, ap length c, G.at_is) in
          let s : at ≡ length F = G.at_is in
          let s' : at ≡ length M = G.at_is ∙ sym (levels_count i) in
          record {
            rows = omega arith;
            offsets_long = G.offsets_long;
            splits_long = G.splits_long;
            levels_long = G.levels_long;
            at_is = next;
            fits = omega (arith, h, G.fits, going_columns_long);
            offsets_are = eo ∙ rw (next, G.offsets_are) (each_more (λ r _. start_of A k n r) (i + 1) o₀ 0 (omega (arith, G.offsets_long)));
            splits_are = es ∙ rw (same_columns i (omega arith), G.at_is, G.splits_are) (each_more (λ r _. split_at A k n r) i ss₀ 0 (omega (arith, G.splits_long)));
            columns_are = ec ∙ rw (c, G.columns_are, s, add-one) (over_add F (columns_from (level_of A k i) 0 n) cs₀ (omega (arith, s, G.fits)));
            levels_are = el ∙ rw (v, G.levels_are, s', add-one) (over_add M (levels_from (level_of A k i) 0 n) ls₀ (omega (arith, s', G.fits, G.levels_long)));
            clear = er ∙ rw L.long;
          }

    -- all rows are written
    pub going_end : n ≤ i → Filled A k n cs₀ ls₀ true o cs ss ls row
    going_end h =
        let e : i ≡ n = omega (arith, G.rows) in
        let x : start_of A k n i ≤ length cs₀ = omega (arith, G.at_is, G.fits) in
        record {
          answer = sym (le-leb (start_of A k n n) (length cs₀) (rw e at x));
          done = λ _. record {
            offsets_are = G.offsets_are ∙ each_all _ (i + 1) o₀ (omega (arith, G.offsets_long)) ∙ each_listed (start_of A k n) o₀ ∙ ap (λ (x : ℕ). listed (start_of A k n) 0 x) G.offsets_long;
            splits_are = G.splits_are ∙ each_all _ i ss₀ (omega (arith, G.splits_long)) ∙ each_listed (split_at A k n) ss₀ ∙ ap (λ (x : ℕ). listed (split_at A k n) 0 x) G.splits_long;
            columns_are = rw e at G.columns_are;
            levels_are = rw e at G.levels_are;
            clear = G.clear;
          };
        }

-- row i can be worked
pub going_ready : (ao ac : List ℕ) (k n : ℕ) {i at : ℕ} {o₀ cs₀ ss₀ ls₀ o cs ss ls row : List ℕ} → Going (stored ao ac) k n i at o₀ cs₀ ss₀ ls₀ o cs ss ls row
    → i < n → n ≤ 65536 → rows_of ao ≡ n → valid_pattern ao ac ≡ true → RowReady ao ac k i row o cs ss ls
going_ready ao ac k n {row = row} G hi few same ok =
    let e : length row ≡ n = ap length G.clear ∙ length-replicate n 0 in
    record {
      loadable = record { rows = same ∙ sym e; valid = ok; in_row = omega (arith, e); few = omega (arith, e); clear = rw e G.clear };
      written = rw e (going_written (stored ao ac) k n G);
    }

pub going_long : {A : Pattern} {k n i at : ℕ} {o₀ cs₀ ss₀ ls₀ o cs ss ls row : List ℕ} → Going A k n i at o₀ cs₀ ss₀ ls₀ o cs ss ls row → length row ≡ n
going_long {n = n} G = ap length G.clear ∙ length-replicate n 0

pub worked_as : {A : Pattern} {k m n i low high : ℕ} {row : List ℕ} → m ≡ n → Worked A k n i low high row → Worked A k m i low high row
worked_as e W = rw e W
