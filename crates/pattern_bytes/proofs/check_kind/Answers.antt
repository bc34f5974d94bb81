-- `check_kind` meets its promise: small room only for bytes that fit it.
-- Assumes nothing.
use native.Mathlib.Omega.{arith}
use Rattle.pattern_bytes.proofs.RoomLaws.{fewer}
use Rattle.pattern_bytes.proofs.check_kind.Goals as goal

pub check_in_small_room-requires : goal.check_in_small_room-requires
check_in_small_room-requires c =
    let fits = c.requires in
    (fewer 4097 17 _ fits.0 (omega (arith, c.if-offsets-gt68.false)), fewer 65535 64 _ fits.1 (omega (arith, c.if-columns-gt256.false)), fewer 4096 16 _ fits.2 (omega (arith, c.if-splits-gt64.false)))
