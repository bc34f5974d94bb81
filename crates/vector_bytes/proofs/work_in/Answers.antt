-- `work_in` meets its promise: what was decoded is worked on, and what that left is encoded.
-- Assumes nothing.
use mathlib.Core.Path.{sym, ◌∙◌}
use native.Mathlib.Omega.{arith}
use lib.ListN.{length}
use lib.Ieee.{binary64}
use Rattle.vector_bytes.specs.Operations.{second_of}
use Rattle.vector_bytes.proofs.WayLaws.{roomy_still, first_bytes, second_bytes, bytes_to_bytes}
use Rattle.vector_bytes.proofs.work_in.Goals as goal

pub decode-requires : goal.decode-requires
decode-requires c =
    let a = c.args in
    first_bytes a.n a.dim _ _ _ _ (length a.b.now) (second_of a.op) c.requires.0 c.requires.1

pub decode_second-requires : goal.decode_second-requires
decode_second-requires c =
    let a = c.args in
    rw c.second_of.ensures (second_bytes a.n a.dim _ _ _ (length a.out.now) _ (second_of a.op) c.requires.0 c.requires.1)

pub operate-answer-requires : goal.operate-answer-requires
operate-answer-requires c =
    roomy_still _ _ _ _ _ _ _ _ c.requires.0 c.decode.auto.values c.decode_second.auto.y c.decode_second.auto.z

pub encode-requires : goal.encode-requires
encode-requires c =
    let a = c.args in
    omega (
      arith,
      first_bytes a.n a.dim _ _ _ (length a.out.now) (length a.b.now) (second_of a.op) c.requires.0 c.requires.1,
      c.decode.auto.values,
      c.operate-answer.auto.x,
    )

pub returns : goal.returns
returns c =
    let a = c.args in
    let room = c.requires.0 in (
      c.operate-answer.ensures.0,
      bytes_to_bytes binary64 a.op _ a.s a.b.now a.out.now a.y.now _ _ _ a.z.now _ _ c.second_of.ensures
          (c.decode.auto.values ∙ room.first ∙ sym room.third) c.decode.ensures c.decode_second.ensures.0
          c.decode_second.ensures.1 c.operate-answer.ensures.1 c.encode.ensures,
    )
