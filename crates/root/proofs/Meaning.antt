-- What the promise of `square_root` amounts to, for either format: it leaves one answer, and `sqrt` computes that answer.
-- Assumes nothing.
use mathlib.Core.Path.{◌≡◌, refl, sym, subst, ◌∙◌}
use mathlib.Core.Bool.{true, false}
use Prim.Native.Nat.{zero, suc}
use lib.Dec.{T}
use lib.Ieee.{Float, nan, inf, fin, Format, binary64, fits}
use Rattle.root.specs.Root.{Rooted}
use Rattle.root.specs.Sqrt.{sqrt}
use Rattle.root.proofs.Unique.{root_unique}
use Rattle.root.proofs.Computed.{sqrt_root}

-- Two answers of the same x are equal.
pub answer_unique : (f : Format) (x r s : Float) → Rooted f x r → Rooted f x s → r ≡ s
answer_unique f nan r s a b = a ∙ sym b
answer_unique f (inf true) r s a b = a ∙ sym b
answer_unique f (inf false) r s a b = a ∙ sym b
answer_unique f (fin t zero e) r s a b = a ∙ sym b
answer_unique f (fin true (suc m) e) r s a b = a ∙ sym b
answer_unique f (fin false (suc m) e) r s a b = root_unique f (fin false (suc m) e) r s a b

-- There is an answer for every x that the format holds: `sqrt f x` is one.
pub sqrt_answers : (f : Format) (x : Float) → T (fits f x) → Rooted f x (sqrt f x)
sqrt_answers f nan h = unfold sqrt in refl
sqrt_answers f (inf true) h = unfold sqrt in refl
sqrt_answers f (inf false) h = unfold sqrt in refl
sqrt_answers f (fin s zero e) h = unfold sqrt in refl
sqrt_answers f (fin true (suc m) e) h = unfold sqrt in refl
sqrt_answers f (fin false (suc m) e) h = sqrt_root f m e h

-- So the two forms of the promise agree: an answer is `sqrt f x`, ..
pub answer→sqrt : (f : Format) (x r : Float) → T (fits f x) → Rooted f x r → r ≡ sqrt f x
answer→sqrt f x r h a = answer_unique f x r (sqrt f x) a (sqrt_answers f x h)

-- .. and `sqrt f x` is an answer.
pub sqrt→answer : (f : Format) (x r : Float) → T (fits f x) → r ≡ sqrt f x → Rooted f x r
sqrt→answer f x r h e = subst (Rooted f x) (sym e) (sqrt_answers f x h)

-- What `square_root` promises of x fixes its answer.
pub promise_unique : (x r s : Float) → (r ≡ sqrt binary64 x) × Rooted binary64 x r → (s ≡ sqrt binary64 x) × Rooted binary64 x s → r ≡ s
promise_unique x r s p q = answer_unique binary64 x r s p.1 q.1
