-- Lists one after the other: their length, a list that is put next, and all lists put one by one.
-- Assumes nothing.
use mathlib.Core.Path.{◌≡◌, refl, sym, ap, ◌∙◌}
use mathlib.Core.List.{List, [], ◌++◌, append_assoc, append-nil}
use Prim.Native.Nat.{ℕ, zero, suc, ◌+◌, ◌-◌, ◌*◌, ◌≤◌, ◌<◌}
use native.Mathlib.Nat.{mul-suc, mul-add}
use native.Mathlib.Numerals.{add-one}
use native.Mathlib.Omega.{arith}
use lib.ListN.{length, take, drop, length-append, drop_of_length-le}
use lib.Seq.{take_at, drop_at, take-length, drop-drop, take-add}
use lib.Ieee.{Float}
use Rattle.base.specs.Iterate.{iterate}
use Rattle.base.proofs.Iterate.{iterate_keeps}
use Rattle.blocks.specs.Lent.{block_at, put_at}
use Rattle.blocks.proofs.LentLaws.{values_part}
use Rattle.factors.specs.Copy.{joined}

pub length_joined : (d m : ℕ) (g : ℕ → List Float) → ((k : ℕ) → k < m → length (g k) ≡ d) → length (joined m g) ≡ d * m
unfolding joined
length_joined d zero g long = omega arith
length_joined d (suc m) g long =
    length-append (joined m g) (g m) ∙ omega (arith, length_joined d m g (λ k h. long k (omega arith)), long m (omega arith), mul-suc d m)

pub joined_same : (m : ℕ) (g h : ℕ → List Float) → ((k : ℕ) → k < m → g k ≡ h k) → joined m g ≡ joined m h
unfolding joined
joined_same zero g h same = refl
joined_same (suc m) g h same = rw (joined_same m g h (λ k l. same k (omega arith)), same m (omega arith))

pub joined_more : (m : ℕ) (g : ℕ → List Float) → joined (m + 1) g ≡ joined m g ++ g m
unfolding joined
joined_more m g = rw add-one

-- what is put where the list so far ends comes next, and all else of the old list stays
pub put_next : (a : ℕ) (done x old : List Float) → length done ≡ a → put_at a x (done ++ drop a old) ≡ (done ++ x) ++ drop (a + length x) old
unfolding put_at
put_next a done x old long =
    let rest : drop (a + length x) (done ++ drop a old) ≡ drop (a + length x) old =
    sym (drop-drop (length x) a (done ++ drop a old)) ∙ ap (drop (length x)) (drop_at done (drop a old) a long) ∙ drop-drop (length x) a old in
    rw (take_at done (drop a old) a long, take-length x, rest)

-- a list that is put over one of its length
pub put_whole : (x old : List Float) → length x ≡ length old → put_at 0 x old ≡ x
put_whole x old same =
    put_next 0 [] x old refl ∙ ap (λ (l : List Float). x ++ l) (drop_of_length-le old {i = 0 + length x} (omega (arith, same))) ∙ append-nil x

-- the same of a part that was lent and given back as x
pub part_next : (a b : ℕ) (done x old : List Float) → length done ≡ a → a ≤ b
    → take a (done ++ drop a old) ++ (x ++ drop (b - a) (drop a (done ++ drop a old))) ≡ (done ++ x) ++ drop b old
part_next a b done x old long up =
    let whole : a + (b - a) ≡ b = omega arith in
    rw (take_at done (drop a old) a long, drop_at done (drop a old) a long, drop-drop (b - a) a old, whole) (sym (append_assoc done x (drop b old)))

-- m lists of d values each
module _ (d m : ℕ) (g : ℕ → List Float) (long : (k : ℕ) → k < m → length (g k) ≡ d) (old : List Float) where
  -- the first k lists are there
  abbrev So : ℕ → List Float → Type 0
  So k out = out ≡ joined k g ++ drop (d * k) old

  put_step : (k : ℕ) (out : List Float) → k < m → So k out → So (k + 1) (put_at (d * k) (g k) out)
  put_step k out h so =
      let next : d * k + length (g k) ≡ d * (k + 1) = omega (arith, long k h, mul-add d k 1) in
      ap (put_at (d * k) (g k)) so ∙ put_next (d * k) (joined k g) (g k) old (length_joined d k g (λ j l. long j (omega arith)))
      ∙ rw (next, joined_more k g)

  pub put_all : (start : ℕ) (out : List Float) → start ≤ m → length old ≤ d * m → So start out → iterate (λ k. put_at (d * k) (g k)) start m out ≡ joined m g
  put_all start out h room so =
      iterate_keeps (λ k. put_at (d * k) (g k)) So start out m h so (λ k t least below. put_step k t below)
      ∙ ap (λ (l : List Float). joined m g ++ l) (drop_of_length-le old room) ∙ append-nil (joined m g)

-- blocks that stand one after the other are a part of their list
pub blocks_part : (n first m : ℕ) (values : List Float) → n * n * (first + m) ≤ length values
    → joined m (λ k. block_at n values (first + k)) ≡ take (n * n * m) (drop (n * n * first) values)
unfolding joined
blocks_part n first zero values fits = let none : n * n * 0 ≡ 0 = omega arith in rw none
blocks_part n first (suc m) values fits =
    let less : n * n * (first + m) + n * n ≤ length values = omega (arith, mul-suc (n * n) (first + m), fits) in
    let far : n * n * first + n * n * m ≡ n * n * (first + m) = sym (mul-add (n * n) first m) in
    rw (
      blocks_part n first m values (omega arith),
      values_part (n * n) values (n * n * (first + m)) less,
      mul-suc (n * n) m,
      take-add (n * n * m) (n * n) (drop (n * n * first) values),
      drop-drop (n * n * m) (n * n * first) values,
      far,
    )
