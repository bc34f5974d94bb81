-- What each operation leaves, and what it does from bytes to bytes.
-- Assumes nothing.
use mathlib.Core.Path.{◌≡◌, refl, sym, ap, ◌∙◌}
use mathlib.Core.List.{List, [], ◌∷◌}
use mathlib.Core.Bool.{Bool, true, false, cond}
use Prim.Native.Nat.{ℕ, ◌*◌}
use native.Mathlib.Omega.{arith}
use lib.ListN.{length, get_or}
use lib.Ieee.{Float, Format}
use Rattle.std.specs.Prelude.{Ok}
use Rattle.answers.specs.Numbers.{Answer}
use Rattle.answers.specs.Checks.{first_of}
use Rattle.blocks.specs.Block.{scaled, added, subtracted}
use Rattle.blocks.specs.Inverse.{singular}
use Rattle.wire.specs.Bytes.{values_in, bytes_of}
use Rattle.lent.specs.Steps.{Dim, product_each, apply_each, inverse_each, InvertingLast, each_part}
use Rattle.lent.proofs.Once.{product_once, apply_once, inverse_once, answer_once, parts_once}
use Rattle.block_bytes.specs.Operations.{first_count, second_count, result_of, later_of, Shaped, Completed, Written}
use Rattle.block_bytes.specs.declared.Operation.{Operation}
use Rattle.block_bytes.specs.declared.Operation.TheVariants.{Apply, Product, Scale, Add, Subtract, AddBlock, SubtractBlock, Inverse}

-- a length at 1 to a value
pub plain : (m k : ℕ) → m ≡ 1 * k → m ≡ k
plain m k e = omega arith

-- the row of 9 is 0, and no other answer has one
row_of_nine : (t : Bool) → ◌≡◌ {A = ℕ} (get_or (cond t (0 ∷ []) []) 0 0) 0
row_of_nine true = refl
row_of_nine false = refl

module _ (f : Format) (n : ℕ) (s : Float) (x y out z : List Float) where
  pub left_apply : Shaped Apply n 1 (length x) (length y) (length out) → z ≡ apply_each f n x y 1 out → Completed f Apply n s x y z (Ok tt)
  left_apply h e =
      record {
        number = refl;
        row = refl;
        left = e ∙ apply_once f n x y out (plain _ _ h.first) (plain _ _ h.second) (plain _ _ h.third);
      }

  pub left_product : Shaped Product n 1 (length x) (length y) (length out) → z ≡ product_each f n x y 1 out → Completed f Product n s x y z (Ok tt)
  left_product h e =
      record {
        number = refl;
        row = refl;
        left = e ∙ product_once f n x y out (plain _ _ h.first) (plain _ _ h.second) (plain _ _ h.third);
      }

  -- one part is all of a slice
  all_of : (m k : ℕ) → m ≡ k → (op : ℕ → List Float → List Float → List Float) (u v : List Float) → length out ≡ k → length u ≡ k → length v ≡ k
      → z ≡ each_part (op m) m u v 1 out → z ≡ op k u v
  all_of m k same op u v lo lu lv e =
      e ∙ parts_once (op m) m u v out (lu ∙ sym same) (lv ∙ sym same) (lo ∙ sym same) ∙ ap (λ (i : ℕ). op i u v) same

  pub left_scale : (m : ℕ) → m ≡ n → Shaped Scale n 1 (length x) (length y) (length out) → z ≡ each_part (λ u _. scaled f m u s) m x x 1 out
      → Completed f Scale n s x y z (Ok tt)
  left_scale m same h e =
      let lx : length x ≡ n = plain _ _ h.first in
      record { number = refl; row = refl; left = all_of m n same (λ i u _. scaled f i u s) x x (plain _ _ h.third) lx lx e }

  pub left_add : (m : ℕ) → m ≡ n → Shaped Add n 1 (length x) (length y) (length out) → z ≡ each_part (added f m) m x y 1 out
      → Completed f Add n s x y z (Ok tt)
  left_add m same h e =
      record { number = refl; row = refl; left = all_of m n same (added f) x y (plain _ _ h.third) (plain _ _ h.first) (plain _ _ h.second) e }

  pub left_subtract : (m : ℕ) → m ≡ n → Shaped Subtract n 1 (length x) (length y) (length out) → z ≡ each_part (subtracted f m) m x y 1 out
      → Completed f Subtract n s x y z (Ok tt)
  left_subtract m same h e =
      record { number = refl; row = refl; left = all_of m n same (subtracted f) x y (plain _ _ h.third) (plain _ _ h.first) (plain _ _ h.second) e }

  pub left_add_block : (m : ℕ) → m ≡ n * n → Shaped AddBlock n 1 (length x) (length y) (length out) → z ≡ each_part (added f m) m x y 1 out
      → Completed f AddBlock n s x y z (Ok tt)
  left_add_block m same h e =
      record { number = refl; row = refl; left = all_of m (n * n) same (added f) x y (plain _ _ h.third) (plain _ _ h.first) (plain _ _ h.second) e }

  pub left_subtract_block : (m : ℕ) → m ≡ n * n → Shaped SubtractBlock n 1 (length x) (length y) (length out) → z ≡ each_part (subtracted f m) m x y 1 out
      → Completed f SubtractBlock n s x y z (Ok tt)
  left_subtract_block m same h e =
      record { number = refl; row = refl; left = all_of m (n * n) same (subtracted f) x y (plain _ _ h.third) (plain _ _ h.first) (plain _ _ h.second) e }

  pub left_inverse : (answer : Answer) → Shaped Inverse n 1 (length x) (length y) (length out) → InvertingLast f n x 1 answer → z ≡ inverse_each f n x 1 out
      → Completed f Inverse n s x y z answer
  left_inverse answer h told e =
      let long : length x ≡ n * n = plain _ _ h.first in
      let given = answer_once f n h.dim x long answer told in
      record {
        number = given.number;
        row = ap (λ (l : List ℕ). get_or l 0 0) given.row ∙ row_of_nine (singular f n x);
        left = e ∙ inverse_once f n h.dim x long out (plain _ _ h.third);
      }

-- from the values back to bytes
pub written : (f : Format) (op : Operation) (n : ℕ) (s : Float) (a b : List ℕ) (x y z : List Float) (out : List ℕ) (answer : Answer)
    → x ≡ values_in f a → y ≡ values_in f b → Completed f op n s x y z answer → out ≡ bytes_of f z → Written f op n s a b out answer
written f op n s a b x y z out answer ex ey done eo =
    record {
      number = done.number ∙ ap (λ (l : List Float). first_of (later_of f op n l)) ex;
      row = done.row;
      left = eo ∙ ap (bytes_of f) (done.left ∙ ap (λ (l : List Float). result_of f op n s l y) ex ∙ ap (result_of f op n s (values_in f a)) ey);
    }

-- room for the values
pub roomy : (op : Operation) (n p q x y z : ℕ) → Dim n → p ≡ first_count op n → q ≡ second_count op n → x ≡ p → y ≡ q → z ≡ q → Shaped op n 1 x y z
roomy op n p q x y z d ep eq ex ey ez =
    record { dim = d; first = one (ex ∙ ep); second = one (ey ∙ eq); third = one (ez ∙ eq) }
  where
    one : {m k : ℕ} → m ≡ k → m ≡ 1 * k
    one e = omega (arith, e)
