-- The promise of a call that writes a pattern fixes its number and every lent slice, of words as of bytes.
-- Assumes nothing.
use mathlib.Core.Path.{◌≡◌, sym, ap, ◌∙◌}
use mathlib.Core.List.{List}
use Prim.Native.Nat.{ℕ}
use Rattle.answers.specs.Checks.{Check}
use Rattle.fill.specs.Promise.{leaves}
use Rattle.fill_way.specs.Promise.{Wrote, Cleared}

pub wrote_agree : (checks : List Check) (m k : ℕ) (os ks ts offsets columns splits o cs ss o' cs' ss' : List ℕ)
    → Wrote checks m os ks ts offsets columns splits o cs ss → Wrote checks k os ks ts offsets columns splits o' cs' ss' → (m ≡ k) × (o ≡ o') × (cs ≡ cs') × (ss ≡ ss')
wrote_agree checks m k os ks ts offsets columns splits o cs ss o' cs' ss' W T =
    let e : m ≡ k = W.first ∙ sym T.first in (
      e,
      W.offsets_are ∙ ap (λ (x : ℕ). leaves x os offsets) e ∙ sym T.offsets_are,
      W.columns_are ∙ ap (λ (x : ℕ). leaves x ks columns) e ∙ sym T.columns_are,
      W.splits_are ∙ ap (λ (x : ℕ). leaves x ts splits) e ∙ sym T.splits_are,
    )

pub cleared_agree : (m : ℕ) (levels row ls w ls' w' : List ℕ) → Cleared m levels row ls w → Cleared m levels row ls' w' → (ls ≡ ls') × (w ≡ w')
cleared_agree m levels row ls w ls' w' C D = (C.levels_are ∙ sym D.levels_are, C.row_is ∙ sym D.row_is)
