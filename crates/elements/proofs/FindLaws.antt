-- Looking up one pair: the three ways that it ends, and what all pairs say.
-- Assumes nothing.
use mathlib.Core.Path.{◌≡◌, sym, ap, ◌∙◌}
use mathlib.Core.List.{List}
use mathlib.Core.Bool.{Bool, true, false, cond}
use Prim.Native.Nat.{ℕ, ◌+◌, ◌*◌, ◌≤◌, ◌<◌}
use native.Mathlib.Omega.{arith}
use lib.ListN.{length, get_or, set}
use Rattle.base.specs.All.{all_to}
use Rattle.base.proofs.All.{all_none, all_more, all_stop}
use Rattle.answers.specs.Limits.{is_place}
use Rattle.patterns.specs.Pattern.{rows_of}
use Rattle.elements.specs.declared.unchecked.Rule.{Rule}
use Rattle.elements.specs.Pairs.{to_diagonal, place_of, entry_at, is_stored, is_row_stored, are_stored}
use Rattle.elements.specs.Fits.{entry_or_none, Placed, FindFits, Finding}
use Rattle.elements.proofs.EntryLaws.{entry_told, entry_is}
use Rattle.elements.proofs.PlaceLaws.{placed_none, placed_row, placed_skip, placed_more}
use Rattle.elements.proofs.FitLaws.{node_inside}

pub false_not_true : false ≡ true → ⊥
false_not_true e = let z : ◌≡◌ {A = ℕ} 0 1 = ap (λ (b : Bool). cond b 1 0) e in absurd (omega arith)

module _ (rule : Rule) {rows cols offsets columns : List ℕ} (fit : FindFits rows cols offsets columns) (a b : ℕ) (ha : a < length rows) (hb : b < length cols) where
  few : length cols ≤ 8
  few = omega (arith, fit.few, fit.alike)

  -- it goes to the diagonal
  pub pair_skipped : (places : List ℕ) → Placed rule rows cols offsets columns (8 * a + b) places → to_diagonal rule rows cols a b ≡ true
      → Finding rule rows cols offsets columns (is_stored rule rows cols offsets columns a b) (8 * a + b + 1) true places
  unfolding is_stored
  pair_skipped places old there =
      record { told = rw there; kept = λ _. placed_skip rule rows cols offsets columns few a b hb places there old }

  module _ (entry : ℕ) (is : entry ≡ entry_or_none offsets columns (get_or rows a 0) (get_or cols b 0)) (apart : to_diagonal rule rows cols a b ≡ false) where
    -- the pair's entry is no place exactly if its column has none
    same : is_place entry ≡ is_place (place_of offsets columns (get_or rows a 0) (get_or cols b 0))
    same = ap is_place is ∙ entry_told fit.pattern (get_or rows a 0) (node_inside (rows_of offsets) rows fit.inside a ha) (get_or cols b 0)

    -- it finds no entry
    pub pair_missing : (places : List ℕ) → is_place entry ≡ false → Finding rule rows cols offsets columns (is_stored rule rows cols offsets columns a b) (8 * a + b + 1) false places
    unfolding is_stored
    pair_missing places none = record { told = rw (apart, sym same ∙ none); kept = λ e. absurd (false_not_true e) }

    -- it finds one
    pub pair_found : (places : List ℕ) → Placed rule rows cols offsets columns (8 * a + b) places → is_place entry ≡ true
        → Finding rule rows cols offsets columns (is_stored rule rows cols offsets columns a b) (8 * a + b + 1) true (set places (8 * a + b) entry)
    unfolding is_stored entry_at
    pair_found places old some =
        let room : 8 * a + b < length places = omega (arith, few, fit.few, old.room) in
        let there : entry ≡ entry_at rows cols offsets columns a b =
        is ∙ entry_is fit.pattern (get_or rows a 0) (node_inside (rows_of offsets) rows fit.inside a ha) (get_or cols b 0) (sym same ∙ some) in
        record { told = rw (apart, sym same ∙ some); kept = λ _. placed_more rule rows cols offsets columns few a b hb places entry room there old }

-- the pairs of a row node, one after the other
module _ (rule : Rule) {rows cols offsets columns : List ℕ} (a : ℕ) where
  pub row_start : {places : List ℕ} → Placed rule rows cols offsets columns (8 * a) places
      → (all_to (is_stored rule rows cols offsets columns a) 0 ≡ true) × (Placed rule rows cols offsets columns (8 * a + 0) places)
  row_start old =
      let e : 8 * a + 0 ≡ 8 * a = omega arith in
      (all_none _, rw e old)

module _ (rule : Rule) (rows cols offsets columns : List ℕ) where
  module _ (a b : ℕ) where
    pub row_stops : b < length cols → (upto : ℕ) (found : Bool) (places : List ℕ)
        → Finding rule rows cols offsets columns (is_stored rule rows cols offsets columns a b) (8 * a + b + 1) found places → found ≡ false
        → Finding rule rows cols offsets columns (is_row_stored rule rows cols offsets columns a) upto false places
    unfolding is_row_stored
    row_stops below upto found places here wrong =
        record { told = sym (all_stop _ b (length cols) below (sym here.told ∙ wrong)); kept = λ e. absurd (false_not_true e) }

    pub row_on : (found : Bool) (places : List ℕ) → all_to (is_stored rule rows cols offsets columns a) b ≡ true
        → Finding rule rows cols offsets columns (is_stored rule rows cols offsets columns a b) (8 * a + b + 1) found places → found ≡ true
        → (all_to (is_stored rule rows cols offsets columns a) (b + 1) ≡ true) × (Placed rule rows cols offsets columns (8 * a + (b + 1)) places)
    row_on found places before here right =
        let e : 8 * a + (b + 1) ≡ 8 * a + b + 1 = omega arith in
        (all_more _ b before (sym here.told ∙ right), rw e (here.kept right))

  -- the row nodes, one after the other
  pub all_start : (places : List ℕ) → length places ≡ 64 → (all_to (is_row_stored rule rows cols offsets columns) 0 ≡ true) × (Placed rule rows cols offsets columns (8 * 0) places)
  all_start places room = (all_none _, placed_none rule rows cols offsets columns places room)

  module _ (a : ℕ) where
    pub all_stops : a < length rows → (upto : ℕ) (found : Bool) (places : List ℕ)
        → Finding rule rows cols offsets columns (is_row_stored rule rows cols offsets columns a) (8 * (a + 1)) found places → found ≡ false
        → Finding rule rows cols offsets columns (are_stored rule rows cols offsets columns) upto false places
    unfolding are_stored
    all_stops below upto found places here wrong =
        record { told = sym (all_stop _ a (length rows) below (sym here.told ∙ wrong)); kept = λ e. absurd (false_not_true e) }

    pub all_on : (found : Bool) (places : List ℕ) → all_to (is_row_stored rule rows cols offsets columns) a ≡ true
        → Finding rule rows cols offsets columns (is_row_stored rule rows cols offsets columns a) (8 * (a + 1)) found places → found ≡ true
        → (all_to (is_row_stored rule rows cols offsets columns) (a + 1) ≡ true) × (Placed rule rows cols offsets columns (8 * (a + 1)) places)
    all_on found places before here right = (all_more _ a before (sym here.told ∙ right), here.kept right)

    pub all_ends : a ≡ length rows → (places : List ℕ) → all_to (is_row_stored rule rows cols offsets columns) a ≡ true → Placed rule rows cols offsets columns (8 * a) places
        → Finding rule rows cols offsets columns (are_stored rule rows cols offsets columns) (8 * length rows) true places
    unfolding are_stored
    all_ends e places all old = record { told = sym (rw e at all); kept = λ _. rw e at old }

pub row_ends : (rule : Rule) {rows cols offsets columns : List ℕ} → FindFits rows cols offsets columns → (a b : ℕ) → b ≡ length cols → (places : List ℕ)
    → all_to (is_stored rule rows cols offsets columns a) b ≡ true → Placed rule rows cols offsets columns (8 * a + b) places
    → Finding rule rows cols offsets columns (is_row_stored rule rows cols offsets columns a) (8 * (a + 1)) true places
unfolding is_row_stored
row_ends rule {rows} {cols} {offsets} {columns} fit a b e places all old =
    record { told = sym (rw e at all); kept = λ _. placed_row rule rows cols offsets columns (omega (arith, fit.few, fit.alike)) a places (rw e at old) }
