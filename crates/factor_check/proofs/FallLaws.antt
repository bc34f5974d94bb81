-- The steps between columns that do not rise are counted over all columns, and again over the ends of rows. If the counts are equal, none is left for the inside of a row.
-- Assumes nothing.
use mathlib.Core.Path.{◌≡◌, refl}
use mathlib.Core.List.{List}
use mathlib.Core.Bool.{Bool, true, false}
use Prim.Native.Nat.{ℕ, zero, suc, ◌+◌, ◌-◌, ◌≤◌, ◌<◌}
use native.Mathlib.Omega.{arith}
use lib.Dec.{ltb, leb}
use lib.ListN.{length, get_or}
use borrow.Author.Tests.{ltb-true, ltb-false, lt-ltb, le-ltb, leb-false}
use Rattle.patterns.specs.Pattern.{rows_of}
use Rattle.factor_check.specs.Steps.{one_if, count_to, falls_at, end_falls, end_falls_at}
use Rattle.factor_check.proofs.CountLaws.{count_more, count_up_lem, count_hit}

-- a row from place a to below b
module _ (cs : List ℕ) (a b : ℕ) where
  pub end_is : a < b → end_falls cs a b ≡ falls_at cs (b - 1)
  unfolding end_falls
  end_is some = rw (lt-ltb a b some)

  pub end_none : b ≤ a → end_falls cs a b ≡ false
  unfolding end_falls
  end_none none = rw (le-ltb a b none)

  -- up to its end there are as many more as the step over its end counts, beside those inside
  part_more : a < b → count_to (falls_at cs) b ≡ count_to (falls_at cs) (b - 1) + one_if (end_falls cs a b)
  part_more some =
      let e : (b - 1) + 1 ≡ b = omega arith in
      rw (end_is some) (rw e at (count_more (falls_at cs) (b - 1)))

  part_adds : a ≤ b → count_to (falls_at cs) a + one_if (end_falls cs a b) ≤ count_to (falls_at cs) b
  part_adds up = go (ltb a b) refl
    where
      go : (t : Bool) → ltb a b ≡ t → count_to (falls_at cs) a + one_if (end_falls cs a b) ≤ count_to (falls_at cs) b
      go true t = omega (arith, part_more (ltb-true a b t), count_up_lem (falls_at cs) a (b - 1) (omega (arith, ltb-true a b t)))
      go false t = rw (end_none (ltb-false a b t)) (omega (arith, count_up_lem (falls_at cs) a b up))

  part_inside : (e : ℕ) → a ≤ e → e + 1 < b → falls_at cs e ≡ true → count_to (falls_at cs) a + one_if (end_falls cs a b) + 1 ≤ count_to (falls_at cs) b
  part_inside e from to falls = omega (arith, part_more (omega arith), count_hit (falls_at cs) a e (b - 1) from (omega arith) falls)

-- offsets that begin with 0, never fall, and end with the number of columns
module _ (o cs : List ℕ) (first : get_or o 0 0 ≡ 0) (up : (i : ℕ) → i < rows_of o → get_or o i 0 ≤ get_or o (i + 1) 0) where
  -- where x more are counted over columns than over ends of rows, they are so after further rows
  kept : (x i d : ℕ) → i + d ≤ rows_of o → count_to (end_falls_at o cs) i + x ≤ count_to (falls_at cs) (get_or o i 0)
      → count_to (end_falls_at o cs) (i + d) + x ≤ count_to (falls_at cs) (get_or o (i + d) 0)
  unfolding end_falls_at
  kept x i zero within h = rw (same) h
    where
      same : i + 0 ≡ i
      same = omega arith
  kept x i (suc d) within h =
      let e : i + suc d ≡ (i + d) + 1 = omega arith in
      rw e
      (omega (arith, kept x i d (omega arith) h, count_more (end_falls_at o cs) (i + d), part_adds cs (get_or o (i + d) 0) (get_or o ((i + d) + 1) 0) (up (i + d) (omega arith))))

  least : (i : ℕ) → i ≤ rows_of o → count_to (end_falls_at o cs) i ≤ count_to (falls_at cs) (get_or o i 0)
  unfolding count_to
  least i within =
      let e : 0 + i ≡ i = omega arith in
      omega (arith, rw e at (kept 0 0 i (omega arith) (omega arith)))

  module _ (last : get_or o (rows_of o) 0 ≡ length cs) (counted : count_to (falls_at cs) (length cs) ≡ count_to (end_falls_at o cs) (rows_of o)) where
    none_inside : (i e : ℕ) → i < rows_of o → get_or o i 0 ≤ e → e + 1 < get_or o (i + 1) 0 → falls_at cs e ≡ true → ⊥
    unfolding end_falls_at
    none_inside i e h from to falls =
        let here : count_to (end_falls_at o cs) (i + 1) + 1 ≤ count_to (falls_at cs) (get_or o (i + 1) 0) =
        omega (arith, least i (omega arith), count_more (end_falls_at o cs) i, part_inside cs (get_or o i 0) (get_or o (i + 1) 0) e from to falls) in
        let back : (i + 1) + (rows_of o - (i + 1)) ≡ rows_of o = omega arith in
        let all : count_to (end_falls_at o cs) (rows_of o) + 1 ≤ count_to (falls_at cs) (get_or o (rows_of o) 0) =
        rw back at (kept 1 (i + 1) (rows_of o - (i + 1)) (omega arith) here) in
        omega (arith, rw last at all, counted)

    -- so that each step inside a row rises
    pub inside_rises : (i e : ℕ) → i < rows_of o → get_or o i 0 ≤ e → e + 1 < get_or o (i + 1) 0 → get_or o (i + 1) 0 ≤ length cs → get_or cs e 0 < get_or cs (e + 1) 0
    unfolding falls_at
    inside_rises i e h from to within = go (leb (get_or cs (e + 1) 0) (get_or cs e 0)) refl
      where
        go : (t : Bool) → leb (get_or cs (e + 1) 0) (get_or cs e 0) ≡ t → get_or cs e 0 < get_or cs (e + 1) 0
        go true t = absurd (none_inside i e h from to (rw (lt-ltb (e + 1) (length cs) (omega arith), t)))
        go false t = leb-false (get_or cs (e + 1) 0) (get_or cs e 0) t
