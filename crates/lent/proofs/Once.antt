-- One block alone: where each slice is one block or one row, the loops leave the operation's result.
-- Assumes nothing.
use mathlib.Core.Path.{◌≡◌, refl, sym, ap, ◌∙◌, subst}
use mathlib.Core.List.{List, append-nil}
use mathlib.Core.Bool.{Bool, true, false, cond}
use Prim.Native.Nat.{ℕ, zero, suc, ◌*◌, ◌≤◌}
use native.Mathlib.Omega.{arith}
use lib.ListN.{length, drop_of_length-le}
use lib.Seq.{take_all}
use lib.Ieee.{Float, Format}
use Rattle.base.specs.Iterate.{steps, iterate}
use Rattle.answers.specs.Numbers.{Answer}
use Rattle.blocks.specs.Block.{product, applied}
use Rattle.blocks.specs.Inverse.{inverse, singular}
use Rattle.blocks.specs.Lent.{values_at, block_at, vector_at, put_at}
use Rattle.blocks.proofs.ListedLaws.{length_listed}
use Rattle.lent.specs.Steps.{Dim, product_at, apply_at, inverse_at, inverse_or, product_each, apply_each, inverse_each, Inverting, InvertingLast, part_at, each_part}
use Rattle.lent.proofs.Whole.{whole_values, put_whole}

-- part 0 of a slice of one part
part_whole : (m : ℕ) (values : List Float) → length values ≡ m → values_at m values (m * 0) ≡ values
part_whole m values long =
    let e : m * 0 ≡ 0 = omega arith in
    rw e (whole_values m values long)

put_part : (m : ℕ) (new out : List Float) → length new ≡ m → length out ≡ m → put_at (m * 0) new out ≡ new
put_part m new out ln lo =
    let e : m * 0 ≡ 0 = omega arith in
    rw e (put_whole new out (ln ∙ sym lo))

module _ (f : Format) (n : ℕ) where
  pub product_once : (a b out : List Float) → length a ≡ n * n → length b ≡ n * n → length out ≡ n * n → product_each f n a b 1 out ≡ product f n a b
  unfolding product_each iterate steps product_at
  product_once a b out la lb lo =
      put_part (n * n) (product f n (block_at n a 0) (block_at n b 0)) out (length_listed (n * n) _) lo
      ∙ ap (λ (l : List Float). product f n l (block_at n b 0)) (part_whole (n * n) a la) ∙ ap (product f n a) (part_whole (n * n) b lb)

  pub apply_once : (a x out : List Float) → length a ≡ n * n → length x ≡ n → length out ≡ n → apply_each f n a x 1 out ≡ applied f n a x
  unfolding apply_each iterate steps apply_at
  apply_once a x out la lx lo =
      put_part n (applied f n (block_at n a 0) (vector_at n x 0)) out (length_listed n _) lo
      ∙ ap (λ (l : List Float). applied f n l (vector_at n x 0)) (part_whole (n * n) a la) ∙ ap (applied f n a) (part_whole n x lx)

length_cond : (t : Bool) (x y : List Float) (m : ℕ) → length x ≡ m → length y ≡ m → length (cond t x y) ≡ m
length_cond true x y m p q = p
length_cond false x y m p q = q

length_inverse : (f : Format) (n : ℕ) (a : List Float) → Dim n → length (inverse f n a) ≡ n * n
length_inverse f zero a d = absurd (omega (arith, d.least))
length_inverse f (suc zero) a d = refl
length_inverse f (suc (suc zero)) a d = refl
length_inverse f (suc (suc (suc zero))) a d = refl
length_inverse f (suc (suc (suc (suc n)))) a d = absurd (omega (arith, d.most))

pub length_inverse_or : (f : Format) (n : ℕ) (a : List Float) → Dim n → length a ≡ n * n → length (inverse_or f n a) ≡ n * n
unfolding inverse_or
length_inverse_or f n a d long = length_cond (singular f n a) a (inverse f n a) (n * n) long (length_inverse f n a d)

module _ (f : Format) (n : ℕ) (d : Dim n) (a : List Float) (la : length a ≡ n * n) where
  pub inverse_once : (out : List Float) → length out ≡ n * n → inverse_each f n a 1 out ≡ inverse_or f n a
  unfolding inverse_each iterate steps inverse_at
  inverse_once out lo =
      let here : block_at n a 0 ≡ a = part_whole (n * n) a la in
      put_part (n * n) (inverse_or f n (block_at n a 0)) out
      (ap (λ (l : List Float). length (inverse_or f n l)) here ∙ length_inverse_or f n a d la) lo ∙ ap (inverse_or f n) here

  -- and what the loop answers is what the one block's inverse does
  pub answer_once : (answer : Answer) → InvertingLast f n a 1 answer → Inverting f n a answer
  answer_once answer given = subst (λ (l : List Float). Inverting f n l answer) (part_whole (n * n) a la) given

-- parts of any number of values alike
pub parts_once : (op : List Float → List Float → List Float) (m : ℕ) (u v out : List Float) → length u ≡ m → length v ≡ m → length out ≡ m
    → each_part op m u v 1 out ≡ op u v
unfolding each_part iterate steps part_at
parts_once op m u v out lu lv lo =
    let e : m * 0 ≡ 0 = omega arith in
    let past : length out ≤ m = omega arith in
    rw (e, take_all m u (omega arith), take_all m v (omega arith), drop_of_length-le out past, append-nil)
