-- The way from bytes to bytes: room for the words, and what becomes of the words once they are decoded.
-- Assumes nothing.
use mathlib.Core.Path.{◌≡◌, refl, sym, ap, ◌∙◌}
use mathlib.Core.List.{List, [], ◌∷◌, ◌++◌}
use mathlib.Core.Bool.{Bool, true, false, cond}
use Prim.Native.Nat.{ℕ, ◌*◌, ◌/◌}
use lib.Dec.{eqb}
use lib.ListN.{length}
use lib.Ieee.{Float, Format, binary64}
use Rattle.answers.specs.Numbers.{Answer}
use Rattle.base.proofs.All.{or_left, or_right}
use Rattle.answers.specs.Numbers.{number_of}
use Rattle.answers.specs.Checks.{Check, ◌when◌, first_of, none_holds}
use Rattle.answers.specs.Limits.{outside_of}
use Rattle.answers.specs.Promise.{Ends, names}
use Rattle.patterns.specs.Checks.{too_large}
use Rattle.matrix.specs.Checks.{vector_checks}
use Rattle.matrix.specs.Product.{mult_vec}
use Rattle.matrix.proofs.PatternEnds.{pair_of}
use Rattle.wire.specs.Bytes.{values_in, bytes_of}
use Rattle.wire.specs.Words.{indexes_in}
use Rattle.wire.proofs.ByteLaws.{length_values}
use Rattle.pattern_bytes.specs.Checks.{Held}
use Rattle.numbered.specs.Checks.{dim_checks}
use Rattle.numbered.proofs.NumberedLaws.{once}
use Rattle.matrix_bytes.specs.Rooms.{HeldMatrix, FilledMatrix, written}

-- ---- room

-- parts of the words that a room holds are filled by the bytes
pub fills : (k room bytes part : ℕ) → Held k room bytes → part ≡ bytes / k → bytes ≡ k * part
fills k room bytes part held is = held.whole ∙ ap (λ (n : ℕ). k * n) (sym is)

pub filled : (rows entries dim o c v d offs cols vals diag : ℕ) → HeldMatrix rows entries dim o c v d → offs ≡ o / 4 → cols ≡ c / 4 → vals ≡ v / 8 → diag ≡ d / 8
    → FilledMatrix dim offs cols vals diag o c v d
filled rows entries dim o c v d offs cols vals diag held eo ec ev ed =
    record {
      range = held.range;
      of_offsets = held.of_offsets.whole ∙ ap (λ (n : ℕ). 4 * n) (sym eo);
      of_columns = held.of_columns.whole ∙ ap (λ (n : ℕ). 4 * n) (sym ec);
      of_values = held.of_values.whole ∙ ap (λ (n : ℕ). 8 * n) (sym ev);
      of_diagonal = held.of_diagonal.whole ∙ ap (λ (n : ℕ). 8 * n) (sym ed);
    }

-- ---- what is encoded

-- the number says whether a call was done
number_decides : (checks : List Check) → names 0 checks ≡ false → eqb (first_of checks) 0 ≡ none_holds checks
number_decides [] unnamed = refl
number_decides ((k when true) ∷ later) unnamed = or_left (eqb k 0) (names 0 later) unnamed
number_decides ((k when false) ∷ later) unnamed = number_decides later (or_right (eqb k 0) (names 0 later) unnamed)

module _ (f : Format) (checks : List Check) (answer : Answer) (unnamed : names 0 checks ≡ false) where
  decided : number_of answer ≡ first_of checks → eqb (number_of answer) 0 ≡ none_holds checks
  decided number = ap (λ (k : ℕ). eqb k 0) number ∙ number_decides checks unnamed

  -- over one slice
  pub encoded : (new old left : List Float) (bytes out : List ℕ) → Ends checks answer new old left → out ≡ written f (number_of answer) left bytes
      → Ends checks answer (bytes_of f new) bytes out
  encoded new old left bytes out end wrote =
      record { number = end.number; lent = settled (none_holds checks) end.lent (rw (decided end.number) at wrote) }
    where
      settled : (none : Bool) → left ≡ cond none new old → out ≡ cond none (bytes_of f left) bytes → out ≡ cond none (bytes_of f new) bytes
      settled true is put = put ∙ ap (bytes_of f) is
      settled false is put = put

  -- over two
  pub both_encoded : (new old left new' old' left' : List Float) (bytes out bytes' out' : List ℕ)
      → Ends {A = List Float × List Float} checks answer (new, new') (old, old') (left, left')
      → out ≡ written f (number_of answer) left bytes → out' ≡ written f (number_of answer) left' bytes'
      → Ends {A = List ℕ × List ℕ} checks answer (bytes_of f new, bytes_of f new') (bytes, bytes') (out, out')
  both_encoded new old left new' old' left' bytes out bytes' out' end wrote wrote' =
      record { number = end.number; lent = settled (none_holds checks) end.lent (rw (decided end.number) at wrote) (rw (decided end.number) at wrote') }
    where
      settled : (none : Bool) → ◌≡◌ {A = List Float × List Float} (left, left') (cond none (new, new') (old, old')) → out ≡ cond none (bytes_of f left) bytes
          → out' ≡ cond none (bytes_of f left') bytes' → ◌≡◌ {A = List ℕ × List ℕ} (out, out') (cond none (bytes_of f new, bytes_of f new') (bytes, bytes'))
      settled true is put put' =
          pair_of (put ∙ ap (λ (p : List Float × List Float). bytes_of f p.0) is) (put' ∙ ap (λ (p : List Float × List Float). bytes_of f p.1) is)
      settled false is put put' = pair_of put put'

-- ---- the product of the decoded words is that of the bytes

pub multiplied : (dim : ℕ) (o c v d x y : List ℕ) (offs cols : List ℕ) (vals diag p q left : List Float) (beta alpha : Float) (answer : Answer) (out : List ℕ)
    → outside_of 1 3 dim ≡ false → offs ≡ indexes_in o → cols ≡ indexes_in c → vals ≡ values_in binary64 v → diag ≡ values_in binary64 d → p ≡ values_in binary64 y
    → q ≡ values_in binary64 x
    → Ends (dim_checks dim (length offs) (length cols) ++ vector_checks dim offs cols (length vals) (length diag) (length p) (length q)) answer
    (mult_vec binary64 dim offs cols vals diag beta alpha q p) p left
    → out ≡ written binary64 (number_of answer) left y
    → Ends (vector_checks dim (indexes_in o) (indexes_in c) (length v / 8) (length d / 8) (length y / 8) (length x / 8)) answer
    (bytes_of binary64 (mult_vec binary64 dim (indexes_in o) (indexes_in c) (values_in binary64 v) (values_in binary64 d) beta alpha (values_in binary64 x) (values_in binary64 y))) y out
multiplied dim o c v d x y offs cols vals diag p q left beta alpha answer out inside eo ec ev ed ep eq end wrote =
    let end' = once _ _ _ _ _ (too_large (length offs) (length cols)) (outside_of 1 3 dim) inside end in
    rw (← length_values binary64 v, ← length_values binary64 d, ← length_values binary64 y, ← length_values binary64 x)
    (encoded binary64 _ answer refl _ _ left y out (rw (eo, ec, ev, ed, ep, eq) at end') wrote)
