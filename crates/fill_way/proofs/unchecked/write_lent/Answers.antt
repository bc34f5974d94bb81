-- `unchecked::write_lent` meets its promise: small room only for bytes that fit it.
-- Assumes nothing.
use mathlib.Core.Path.{sym, ◌∙◌}
use Rattle.fill_way.proofs.WayLaws.{small_held}
use Rattle.fill_way.proofs.unchecked.write_lent.Goals as goal

pub write_in_small_room-requires : goal.write_in_small_room-requires
write_in_small_room-requires c = small_held _ _ _ _ _ (sym c.is_small.ensures ∙ c.if-is_small.true) c.requires
