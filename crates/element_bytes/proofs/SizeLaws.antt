-- The checks by lengths with a diagonal, on counts of bytes: what the sizes are when none of them refuses.
-- Assumes nothing.
use mathlib.Core.Path.{◌≡◌, refl, ap}
use mathlib.Core.Bool.{Bool, true, false, ◌||◌, cond}
use Prim.Native.Nat.{ℕ, ◌-◌, ◌*◌, ◌/◌}
use native.Mathlib.Nat.{mul-le-mul_right}
use native.Mathlib.Omega.{arith}
use Rattle.base.proofs.All.{or_left, or_right}
use Rattle.answers.specs.Checks.{first_of}
use Rattle.answers.specs.Limits.{outside_of}
use Rattle.lent.specs.Steps.{Dim}
use Rattle.patterns.specs.Checks.{too_large}
use Rattle.elements.specs.Checks.{element_lengths}
use Rattle.elements.proofs.CheckLaws as lengths
use Rattle.pattern_bytes.specs.Checks.{broken}
use Rattle.pattern_bytes.proofs.RoomLaws.{whole_values}
use Rattle.numbered.proofs.NumberedLaws.{dim_of}
use Rattle.entry_bytes.specs.Checks.{broken_entries}
use Rattle.entry_bytes.specs.Rooms.{ElementFits, EntriesSized}
use Rattle.entry_bytes.proofs.SizeLaws.{lengths_left, held, element_fits, sized, entries_sized}
use Rattle.assembly_bytes.specs.Ways.{DiagonalSized}
use Rattle.element_bytes.specs.Checks.{broken_assembly, assembly_lengths}

diagonal_sized : (n offsets columns diagonal : ℕ) → Dim n → too_large (offsets / 4) (columns / 4) ≡ false → broken 8 diagonal ≡ false
    → diagonal / 8 ≡ n * n * (offsets / 4 - 1) → DiagonalSized offsets diagonal
diagonal_sized n offsets columns diagonal dim small unbroken is = record {
  full = held 8 36864 diagonal (whole_values diagonal unbroken) (rw is (lengths.diagonal_most n (offsets / 4) (columns / 4) dim small));
  per_row = rw is (mul-le-mul_right (offsets / 4 - 1) (lengths.block_most n dim));
}

-- what the way asks, from the checks that have passed
pub assembly_asked : (n rows cols element offsets columns diagonal values : ℕ) → first_of (assembly_lengths n rows cols element offsets columns diagonal values) ≡ 0
    → (Dim n) × (EntriesSized offsets columns values) × (DiagonalSized offsets diagonal) × (ElementFits rows cols element)
assembly_asked n rows cols element offsets columns diagonal values zero_is =
    let both = lengths_left (too_large (offsets / 4) (columns / 4)) (outside_of 1 3 n || broken_assembly rows cols element offsets columns diagonal values) (element_lengths n (rows / 4) (cols / 4) (element / 8) (offsets / 4) (columns / 4) (diagonal / 8) (values / 8)) zero_is in
    let dim = dim_of n (or_left (outside_of 1 3 n) (broken_assembly rows cols element offsets columns diagonal values) both.0) in
    let all = or_right (outside_of 1 3 n) (broken_assembly rows cols element offsets columns diagonal values) both.0 in
    let unbroken = or_left (broken_entries rows cols element offsets columns values) (broken 8 diagonal) all in
    let entries = lengths.entries_too n (rows / 4) (cols / 4) (element / 8) (offsets / 4) (columns / 4) (diagonal / 8) (values / 8) both.1 in (
      dim,
      entries_sized n rows cols element offsets columns values dim unbroken entries,
      diagonal_sized n offsets columns diagonal dim (sized n rows cols element offsets columns values dim unbroken entries) (or_right (broken_entries rows cols element offsets columns values) (broken 8 diagonal) all) (lengths.diagonal_is n (rows / 4) (cols / 4) (element / 8) (offsets / 4) (columns / 4) (diagonal / 8) (values / 8) both.1),
      element_fits n rows cols element offsets columns values dim unbroken entries,
    )

-- one more slice that may be broken
pub one_more : (outside broken last : Bool) → (outside || broken) ≡ true → true ≡ outside || (broken || last)
one_more true broken last holds = refl
one_more false true last holds = refl
one_more false false last never = let z : ◌≡◌ {A = ℕ} 0 1 = ap (λ (b : Bool). cond b 1 0) never in absurd (omega arith)

pub last_decides : (outside broken last : Bool) → (outside || broken) ≡ false → last ≡ outside || (broken || last)
last_decides outside broken last none = rw (or_left outside broken none, or_right outside broken none)
