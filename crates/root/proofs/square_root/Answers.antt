-- `root::square_root` meets its contract. Each way out is a law of `proofs/Cases.antt`, and `proofs/Meaning.antt` turns an answer into the equation.
-- Assumes nothing.
use mathlib.Core.Path.{◌≡◌, sym, subst}
use lib.Dec.{T}
use lib.Ieee.{Float, binary64, fits}
use Rattle.root.specs.Root.{Rooted}
use Rattle.root.specs.Sqrt.{sqrt}
use Rattle.root.proofs.Meaning.{answer→sqrt}
use Rattle.root.proofs.Cases.{answer_negative, answer_itself}
use Rattle.root.proofs.square_root.Goals.{Start}
use Rattle.root.proofs.square_root.Goals as goal

-- what owning an `f64` tells: the format holds it
held : (c : Start) → T (fits binary64 c.args.x)
held c = subst T (sym c.well_formed.0.1) tt

both : (x r : Float) → T (fits binary64 x) → Rooted binary64 x r → (r ≡ sqrt binary64 x) × Rooted binary64 x r
both x r h a = (answer→sqrt binary64 x r h a, a)

pub returns-then-x : goal.returns-then-x
returns-then-x c = both _ _ (held c.before.before) c.positive_root.ensures

pub returns-then-x-2 : goal.returns-then-x-2
returns-then-x-2 c = both _ _ (held c.before.before) (answer_negative c.args.x c.if-x-2.true)

pub returns : goal.returns
returns c = both _ _ (held c.before.before) (answer_itself c.args.x c.if-x.false c.if-x-2.false)
