-- The way from bytes to bytes: room for the words, what each call asks of it, and what the decoded words become.
-- Assumes nothing.
use mathlib.Core.Path.{◌≡◌, refl, sym, ap, ◌∙◌}
use mathlib.Core.List.{List, [], ◌∷◌}
use mathlib.Core.Bool.{true, false}
use Prim.Native.Nat.{ℕ, ◌*◌, ◌%◌, ◌≤◌, ◌<◌}
use native.Mathlib.Omega.{arith}
use lib.IntN.{ℤ, pos}
use lib.ListN.{length, take, get_or, replicate, length-replicate}
use lib.Seq.{length-take-le, get_or-take}
use lib.Ieee.{Float, Format, binary64}
use borrow.Author.Tests.{eq-eqb, le-ltb}
use Rattle.answers.specs.Numbers.{AnswerOf, number_of}
use Rattle.base.proofs.Each.{each_same}
use Rattle.answers.specs.Checks.{none_holds}
use Rattle.answers.specs.Limits.{rows_out_of_range, outside_of}
use Rattle.vectors.specs.Vectors.{kept_by, fix_at, fixed, dot_to}
use Rattle.vectors.specs.DotAnswers.{dot_values}
use Rattle.wire.specs.Bytes.{values_in, bytes_of}
use Rattle.wire.specs.Words.{flags_in}
use Rattle.vector_bytes.specs.Checks.{Lent, words, long_words, wrong_words, call_checks, Roomy}
use Rattle.vector_bytes.specs.Operations.{second_of, lent_of, made_of, result_of, values_over, flags_over}
use Rattle.vector_bytes.specs.declared.Second.{Second}
use Rattle.vector_bytes.specs.declared.Operation.{Operation}
use Rattle.vector_bytes.specs.declared.Operation.TheVariants.{SetZero, Copy, AddScaledVector, ScaleAndAddVec, SetFixed, SetFixDofToRhsVector}
use Rattle.vector_bytes.proofs.CheckLaws.{known, none_wrong, first_right, values_right}

-- ---- room

-- a part of a room has as many words as it was asked for
pub part_of_room : {A : Type 0} (room count : ℕ) (x : A) → count ≤ room → length (take count (replicate room x)) ≡ count
part_of_room room count x few = length-take-le count (replicate room x) (rw (length-replicate room x) few)

pub roomy : (n dim : ℕ) (lent : List Lent) (count x y z : ℕ) → none_holds (call_checks n dim lent) ≡ true → count ≡ dim * n → x ≡ count → y ≡ count → z ≡ count
    → Roomy n dim x y z
roomy n dim lent count x y z none is ex ey ez =
    let all = known n dim lent none in
    record { rows = all.0; range = all.1; first = ex ∙ is; second = ey ∙ is; third = ez ∙ is }

-- decoding and the call leave the lengths
pub roomy_still : (n dim x y z u v w : ℕ) → Roomy n dim x y z → u ≡ x → v ≡ y → w ≡ z → Roomy n dim u v w
roomy_still n dim x y z u v w room eu ev ew = rw (eu, ev, ew) room

-- the bytes that fit the room
module _ (n dim x y z p b : ℕ) (second : Second) (room : Roomy n dim x y z) (none : none_holds (call_checks n dim (lent_of binary64 second p b)) ≡ true) where
  right : wrong_words (dim * n) (lent_of binary64 second p b) ≡ false
  right = (known n dim (lent_of binary64 second p b) none).2

  pub first_bytes : p ≡ 8 * x
  first_bytes = rw room.first (first_right (dim * n) p b second right)

  pub second_bytes : (wrong_words y (lent_of binary64 second (8 * y) b) ≡ false) × (z ≡ y)
  second_bytes =
      let e : p ≡ 8 * (dim * n) = first_right (dim * n) p b second right in
      (rw (room.second, ← e) right, room.third ∙ sym room.second)

-- of a second vector
pub other_bytes : (n dim x y z p b : ℕ) → Roomy n dim x y z → none_holds (call_checks n dim (words 8 p ∷ words 8 b ∷ [])) ≡ true → b ≡ 8 * y
other_bytes n dim x y z p b room none =
    rw room.second (values_right (dim * n) p b (known n dim (words 8 p ∷ words 8 b ∷ []) none).2)

-- ---- what the calls of values ask

ones : (m : ℕ) → 1 * m ≡ m
ones m = omega arith

module _ (n dim x y z : ℕ) (room : Roomy n dim x y z) where
  none_of : (lent : List Lent) → wrong_words (dim * n) lent ≡ false → none_holds (call_checks n dim lent) ≡ true
  none_of lent right = none_wrong n dim lent room.rows room.range right

  pub vector_asked : none_holds (call_checks n dim (words 1 x ∷ [])) ≡ true
  vector_asked = none_of (words 1 x ∷ []) (rw (eq-eqb x (1 * (dim * n)) (room.first ∙ sym (ones (dim * n)))))

  pub values_asked : none_holds (call_checks n dim (words 1 x ∷ words 1 y ∷ [])) ≡ true
  values_asked =
      none_of (words 1 x ∷ words 1 y ∷ [])
      (rw (eq-eqb x (1 * (dim * n)) (room.first ∙ sym (ones (dim * n))), eq-eqb y (1 * (dim * n)) (room.second ∙ sym (ones (dim * n)))))

  pub flags_asked : none_holds (call_checks n dim (words 1 x ∷ words 1 z ∷ [])) ≡ true
  flags_asked =
      none_of (words 1 x ∷ words 1 z ∷ [])
      (rw (eq-eqb x (1 * (dim * n)) (room.first ∙ sym (ones (dim * n))), eq-eqb z (1 * (dim * n)) (room.third ∙ sym (ones (dim * n)))))

  pub long_flags_asked : none_holds (call_checks n dim (words 1 x ∷ long_words 1 z ∷ [])) ≡ true
  long_flags_asked =
      let whole : z % 1 ≡ 0 = omega arith in
      none_of (words 1 x ∷ long_words 1 z ∷ [])
      (rw (eq-eqb x (1 * (dim * n)) (room.first ∙ sym (ones (dim * n))), le-ltb z (1 * (dim * n)) (omega (arith, room.third)), eq-eqb (z % 1) 0 whole))

-- ---- what the decoded words become

-- flags past the vector fix nothing
fixed_take : (f : Format) (m : ℕ) (flags : List ℤ) (x : List Float) → length x ≤ m → fixed f (take m flags) x ≡ fixed f flags x
unfolding fixed fix_at
fixed_take f m flags x enough =
    each_same (fix_at f (take m flags)) (fix_at f flags) x (λ i v below. ap (λ (flag : ℤ). kept_by f flag v) (get_or-take m flags i (pos 0) (omega arith)))

made_of_bytes : (f : Format) (op : Operation) (s : Float) (b : List ℕ) (y : List Float) (z : List ℤ) (x : List Float) → length x ≡ length z
    → made_of f op s (values_over f (second_of op) b y) (flags_over (second_of op) b z) x ≡ result_of f op s b x
made_of_bytes f SetZero s b y z x same = refl
made_of_bytes f Copy s b y z x same = refl
made_of_bytes f AddScaledVector s b y z x same = refl
made_of_bytes f ScaleAndAddVec s b y z x same = refl
made_of_bytes f SetFixed s b y z x same = refl
made_of_bytes f SetFixDofToRhsVector s b y z x same = fixed_take f (length z) (flags_in b) x (omega arith)

-- x, y and z as they are decoded, then what the call makes of x
pub bytes_to_bytes : (f : Format) (op : Operation) (second : Second) (s : Float) (b p : List ℕ) (y₀ y x made : List Float) (z₀ z : List ℤ) (new : List ℕ)
    → second ≡ second_of op → length x ≡ length z₀ → x ≡ values_in f p → y ≡ values_over f second b y₀ → z ≡ flags_over second b z₀ → made ≡ made_of f op s y z x
    → new ≡ bytes_of f made → new ≡ bytes_of f (result_of f op s b (values_in f p))
bytes_to_bytes f op second s b p y₀ y x made z₀ z new is same ex ey ez em en =
    let ey' : y ≡ values_over f (second_of op) b y₀ = rw is at ey in
    let ez' : z ≡ flags_over (second_of op) b z₀ = rw is at ez in
    en ∙ ap (bytes_of f) (em ∙ ap (λ (l : List Float). made_of f op s l z x) ey' ∙ ap (λ (l : List ℤ). made_of f op s (values_over f (second_of op) b y₀) l x) ez'
    ∙ made_of_bytes f op s b y₀ z₀ x same ∙ ap (result_of f op s b) ex)

-- the sum of the decoded values is that of the bytes
pub dot_of_values_lem : (f : Format) (dim n : ℕ) (a b : List ℕ) (x y : List Float) (dot : AnswerOf Float) → x ≡ values_in f a → y ≡ values_in f b
    → (number_of dot ≡ 0) × (dot_values dot ≡ (dot_to f dim x y n ∷ [], []))
    → (number_of dot ≡ 0) × (dot_values dot ≡ (dot_to f dim (values_in f a) (values_in f b) n ∷ [], []))
dot_of_values_lem f dim n a b x y dot ex ey given = rw (ex, ey) at given
