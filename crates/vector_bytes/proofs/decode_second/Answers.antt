-- `decode_second` meets its promise: on each way the room that the second slice is for has its words.
-- Assumes nothing.
use mathlib.Core.Path.{refl, sym, ◌∙◌}
use Prim.Native.Nat.{◌*◌, ◌≤◌}
use lib.ListN.{length}
use lib.Seq.{length-take-le}
use Rattle.wire.proofs.WordLaws.{flags_take}
use Rattle.vector_bytes.proofs.CheckLaws.{values_right, flags_right, long_flags_right}
use Rattle.vector_bytes.proofs.decode_second.Goals as goal

pub decode-requires : goal.decode-requires
decode-requires c =
    values_right _ (8 * length c.args.y.now) _ (rw c.in-Values.is at c.requires.0)

pub decode_flags-requires : goal.decode_flags-requires
decode_flags-requires c =
    rw c.requires.1 (flags_right _ (8 * length c.args.y.now) _ (rw c.in-Flags.is at c.requires.0))

pub slice_bounds-decode_flags-end : goal.slice_bounds-decode_flags-end
slice_bounds-decode_flags-end c =
    -- there are bytes for the flags of the vector
    let enough : 4 * length c.args.z.now ≤ length c.args.b.now = rw c.requires.1 (long_flags_right _ (8 * length c.args.y.now) _ (rw c.in-LongFlags.is at c.requires.0)) in
    sym (length-take-le _ _ enough)

pub decode_flags-requires-in-LongFlags : goal.decode_flags-requires-in-LongFlags
decode_flags-requires-in-LongFlags c =
    -- there are bytes for the flags of the vector
    let enough : 4 * length c.args.z.now ≤ length c.args.b.now = rw c.requires.1 (long_flags_right _ (8 * length c.args.y.now) _ (rw c.in-LongFlags.is at c.requires.0)) in
    length-take-le _ _ enough

pub returns-in-Values : goal.returns-in-Values
returns-in-Values c = rw c.in-Values.is (c.decode.ensures, refl)

pub returns-in-Flags : goal.returns-in-Flags
returns-in-Flags c = rw c.in-Flags.is (refl, c.decode_flags.ensures)

pub returns-in-LongFlags : goal.returns-in-LongFlags
returns-in-LongFlags c =
    -- there are bytes for the flags of the vector
    let enough : 4 * length c.args.z.now ≤ length c.args.b.now = rw c.requires.1 (long_flags_right _ (8 * length c.args.y.now) _ (rw c.in-LongFlags.is at c.requires.0)) in
    let a = c.args in
    rw c.in-LongFlags.is (refl, c.decode_flags-in-LongFlags.ensures ∙ flags_take (length a.z.now) a.b.now enough)
