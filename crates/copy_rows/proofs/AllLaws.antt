-- All rows of the copy: what the two patterns give to the work on a row, and how the rows come one after the other.
-- Assumes nothing.
use mathlib.Core.Path.{◌≡◌, sym, ap, ◌∙◌}
use mathlib.Core.List.{List, ◌++◌, append-nil}
use mathlib.Core.Bool.{true}
use Prim.Native.Nat.{ℕ, zero, suc, ◌+◌, ◌-◌, ◌*◌, ◌≤◌, ◌<◌}
use native.Mathlib.Nat.{mul-le-mul_left, mul-add}
use native.Mathlib.Omega.{arith}
use lib.ListN.{length, get_or, take, drop, length-append, length-take, length-drop, drop_of_length-le}
use lib.Seq.{take-add, take_all}
use lib.Ieee.{Float, Format}
use Rattle.base.proofs.All.{all_at}
use Rattle.patterns.specs.Pattern.{rows_of, row_of, valid_pattern}
use Rattle.patterns.proofs.Use.{pattern_entries, valid_offsets_lem, offset_last, row_ends, row_length}
use Rattle.patterns.proofs.OffsetLaws.{offsets_first}
use Rattle.factors.specs.Copy.{row_has_places, all_have_places, joined, copied_row, copied_rows}
use Rattle.places.specs.Places.{Markable}
use Rattle.copy_check.specs.Steps.{Patterns}
use Rattle.copy_check.proofs.LookLaws.{ends, long, low, markable, both_ends, looks}
use Rattle.copy_rows.specs.Steps.{CopyRow, CopyFits}
use Rattle.copy_rows.proofs.JoinLaws.{length_joined, joined_more, part_next}
use Rattle.copy_rows.proofs.RowLaws.{copied_long, own_row}

-- row i of both patterns
module _ {starts entries o cs : List ℕ} (fit : Patterns starts entries o cs) (i : ℕ) (h : i < rows_of starts) where
  there : i < rows_of o
  there = omega (arith, fit.same)

  most : rows_of o ≤ 4096
  most = omega (arith, fit.same, fit.most)

  -- what its copy asks
  pub copies : (n values : ℕ) → values ≡ n * n * length entries
      → (out : ℕ) → out ≡ n * n * get_or o (i + 1) 0 - n * n * get_or o i 0 → CopyRow n (row_of o cs i) (row_of starts entries i) (get_or starts i 0) values out
  copies n values is out long-is =
      let a = long starts entries fit.valid fit.most i h in
      let b = long o cs fit.valid_factor most i there in
      record {
        marks = markable starts entries fit.valid fit.most i h fit.few;
        low = low o cs fit.valid_factor most i there;
        stored = rw (a, is) (mul-le-mul_left (n * n) (both_ends fit i h).1);
        room = long-is ∙ rw (← b) (omega (arith, mul-add (n * n) (get_or o i 0) (length (row_of o cs i))));
      }

-- and that its entries have places
pub placed_at : {n : ℕ} {starts entries o cs : List ℕ} {a-values values : ℕ} → CopyFits n starts entries o cs a-values values → (i : ℕ) → i < rows_of starts
    → (Markable (row_of o cs i)) × (row_has_places (row_of o cs i) (row_of starts entries i) ≡ true)
unfolding all_have_places
placed_at {starts = starts} {entries = entries} {o = o} {cs = cs} fit i h = (
  (looks fit.patterns i h).0,
  all_at (λ k. row_has_places (row_of o cs k) (row_of starts entries k)) i (rows_of starts) fit.placed h,
)

-- the values of row i: the numbers that the code works out, and the length of the part that it hands on
module _ {n : ℕ} {starts entries o cs : List ℕ} {a-values values : ℕ} (fit : CopyFits n starts entries o cs a-values values) where
  pub block_most : n * n ≤ 9
  block_most = omega (arith, mul-le-mul_left n fit.dim.most, fit.dim.most)

  pub places : (i : ℕ) → i < rows_of starts → (n * n * get_or o i 0 ≤ n * n * get_or o (i + 1) 0) × (n * n * get_or o (i + 1) 0 ≤ values)
  places i h =
      let e = both_ends fit.patterns i h in
      (mul-le-mul_left (n * n) e.2, rw fit.of_values (mul-le-mul_left (n * n) e.3))

pub part_length : (a b : ℕ) (l : List Float) → a ≤ b → b ≤ length l → length (take (b - a) (drop a l)) ≡ b - a
part_length a b l up within = simp (length-take, length-drop) (omega arith)

module _ (f : Format) (n : ℕ) (starts entries : List ℕ) (values : List Float) (o cs : List ℕ) where
  abbrev pub copied : ℕ → List Float
  copied i = copied_row f n (row_of starts entries i) (get_or starts i 0) values (row_of o cs i)

  row_long : (i : ℕ) → length (copied i) ≡ n * n * length (row_of o cs i)
  unfolding copied_row
  row_long i = length_joined (n * n) (length (row_of o cs i)) _ (λ k h. copied_long f n (row_of starts entries i) (get_or starts i 0) values (get_or (row_of o cs i) k 0))

  module _ (valid : valid_pattern o cs ≡ true) where
    -- the rows before row i have the blocks before its offset
    pub rows_long : (i : ℕ) → i ≤ rows_of o → length (joined i copied) ≡ n * n * get_or o i 0
    unfolding joined
    rows_long zero h = rw (offsets_first o cs (valid_offsets_lem o cs (pattern_entries o cs valid))) (omega arith)
    rows_long (suc i) h =
        let is : suc i ≡ i + 1 = omega arith in
        let row = row_length o cs (valid_offsets_lem o cs (pattern_entries o cs valid)) i (omega arith) in
        length-append (joined i copied) (copied i)
        ∙ omega (arith, rows_long i (omega arith), row_long i, mul-add (n * n) (get_or o i 0) (length (row_of o cs i)), ap (λ (e : ℕ). n * n * e) row, ap (λ (e : ℕ). n * n * get_or o e 0) is)

    pub rows_none : (old : List Float) → old ≡ joined 0 copied ++ drop (n * n * get_or o 0 0) old
    unfolding joined
    rows_none old =
        let none : n * n * get_or o 0 0 ≡ 0 = rw (offsets_first o cs (valid_offsets_lem o cs (pattern_entries o cs valid))) (omega arith) in
        rw none

    -- a row's part comes next
    pub rows_more : (i a b : ℕ) (old out part new : List Float) → i < rows_of o → a ≡ n * n * get_or o i 0 → b ≡ n * n * get_or o (i + 1) 0
        → out ≡ joined i copied ++ drop (n * n * get_or o i 0) old → part ≡ copied i → new ≡ take a out ++ (part ++ drop (b - a) (drop a out))
        → new ≡ joined (i + 1) copied ++ drop (n * n * get_or o (i + 1) 0) old
    rows_more i a b old out part new h p q so row lent =
        let here : out ≡ joined i copied ++ drop a old = so ∙ ap (λ (e : ℕ). joined i copied ++ drop e old) (sym p) in
        let up : a ≤ b = omega (arith, p, q, mul-le-mul_left (n * n) (row_ends o cs (valid_offsets_lem o cs (pattern_entries o cs valid)) i h).0) in
        lent ∙ ap (λ (l : List Float). take a l ++ (part ++ drop (b - a) (drop a l))) here
        ∙ part_next a b (joined i copied) part old (rows_long i (omega arith) ∙ sym p) up ∙ rw (row, q, joined_more i copied)

    -- and the length stays
    pub rows_kept : (i : ℕ) (old out : List Float) → i ≤ rows_of o → n * n * get_or o i 0 ≤ length old → out ≡ joined i copied ++ drop (n * n * get_or o i 0) old → length out ≡ length old
    rows_kept i old out h fits so =
        ap length so ∙ length-append (joined i copied) (drop (n * n * get_or o i 0) old) ∙ omega (arith, rows_long i h, length-drop (n * n * get_or o i 0) old)

  -- and after the last row nothing is left
  pub rows_all : valid_pattern o cs ≡ true → (old out : List Float) → length old ≡ n * n * length cs → out ≡ joined (rows_of o) copied ++ drop (n * n * get_or o (rows_of o) 0) old
      → out ≡ copied_rows f n starts entries values o cs
  unfolding copied_rows
  rows_all valid old out room so =
      let last : n * n * get_or o (rows_of o) 0 ≡ n * n * length cs = ap (λ (e : ℕ). n * n * e) (offset_last o cs (valid_offsets_lem o cs (pattern_entries o cs valid))) in
      so ∙ ap (λ (l : List Float). joined (rows_of o) copied ++ l) (drop_of_length-le old {i = n * n * get_or o (rows_of o) 0} (omega (arith, last, room))) ∙ append-nil (joined (rows_of o) copied)

-- The factor has A's pattern: the rows are then A's values, one after the other.
module _ (f : Format) (n : ℕ) (o cs : List ℕ) (values : List Float) (valid : valid_pattern o cs ≡ true) (most : rows_of o ≤ 4096) (few : length cs ≤ 65535) (stored : length values ≡ n * n * length cs) where
  own_rows : (i : ℕ) → i ≤ rows_of o → joined i (copied f n o cs values o cs) ≡ take (n * n * get_or o i 0) values
  unfolding joined
  own_rows zero h =
      let none : n * n * get_or o 0 0 ≡ 0 = rw (offsets_first o cs (valid_offsets_lem o cs (pattern_entries o cs valid))) (omega arith) in
      rw none
  own_rows (suc i) h =
      let below : i < rows_of o = omega arith in
      let next : suc i ≡ i + 1 = omega arith in
      let end = long o cs valid most i below in
      let fits : n * n * (get_or o i 0 + length (row_of o cs i)) ≤ length values = rw (end, stored) (mul-le-mul_left (n * n) (ends o cs valid most i below).1) in
      let size : n * n * get_or o i 0 + n * n * length (row_of o cs i) ≡ n * n * get_or o (suc i) 0 =
      sym (mul-add (n * n) (get_or o i 0) (length (row_of o cs i))) ∙ ap (λ (e : ℕ). n * n * e) (end ∙ ap (λ (k : ℕ). get_or o k 0) (sym next)) in
      rw (own_rows i (omega arith), own_row f n (row_of o cs i) (get_or o i 0) values (markable o cs valid most i below few) fits)
      (sym (take-add (n * n * get_or o i 0) (n * n * length (row_of o cs i)) values) ∙ ap (λ (e : ℕ). take e values) size)

  own_all : values ≡ copied_rows f n o cs values o cs
  unfolding copied_rows
  own_all =
      let last : n * n * get_or o (rows_of o) 0 ≡ n * n * length cs = ap (λ (e : ℕ). n * n * e) (offset_last o cs (valid_offsets_lem o cs (pattern_entries o cs valid))) in
      sym (own_rows (rows_of o) (omega arith) ∙ take_all (n * n * get_or o (rows_of o) 0) values (omega (arith, last, stored)))

-- what was put whole is then what is to be copied
pub same_copied : (f : Format) {n : ℕ} {starts entries o cs : List ℕ} (values : List Float) {room : ℕ} → CopyFits n starts entries o cs (length values) room → starts ≡ o → entries ≡ cs
    → values ≡ copied_rows f n starts entries values o cs
same_copied f {n = n} {o = o} {cs = cs} values fit p q =
    let pat = fit.patterns in
    rw (p, q) (own_all f n o cs values pat.valid_factor (omega (arith, pat.same, pat.most)) pat.few_columns (fit.of_a ∙ ap (λ (l : List ℕ). n * n * length l) q))

-- and there are as many
pub same_long : {n : ℕ} {starts entries o cs : List ℕ} {a-values values : ℕ} → CopyFits n starts entries o cs a-values values → entries ≡ cs → a-values ≡ values
same_long {n = n} fit q = fit.of_a ∙ ap (λ (l : List ℕ). n * n * length l) q ∙ sym fit.of_values
