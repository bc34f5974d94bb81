-- `dot_in` meets its promise: the call's own checks find nothing, so that the sum of what was decoded is there.
-- Assumes nothing.
use lib.ListN.{length}
use lib.Ieee.{binary64}
use Rattle.vector_bytes.specs.declared.Second.TheVariants.{Values}
use Rattle.vector_bytes.proofs.NumberedLaws.{sum_of}
use Rattle.vector_bytes.proofs.WayLaws.{roomy_still, first_bytes, other_bytes, values_asked, dot_of_values_lem}
use Rattle.vector_bytes.proofs.dot_in.Goals as goal

pub decode-requires : goal.decode-requires
decode-requires c =
    let a = c.args in
    first_bytes a.n a.dim _ _ _ _ (length a.b.now) Values c.requires.0 c.requires.1

pub decode-requires-2 : goal.decode-requires-2
decode-requires-2 c =
    let a = c.args in
    other_bytes a.n a.dim _ _ _ (length a.a.now) _ c.requires.0 c.requires.1

pub returns : goal.returns
returns c =
    let a = c.args in
    let room = roomy_still _ _ _ _ _ _ _ _ c.requires.0 c.decode.auto.values c.decode-2.auto.values c.decode-2.auto.values in
    dot_of_values_lem binary64 a.dim a.n a.a.now a.b.now _ _ c.dot.result c.decode.ensures c.decode-2.ensures
    (sum_of _ _ _ (values_asked _ _ _ _ _ room) c.dot.ensures)
