-- `unchecked::hex_at` meets its contract. The invariant: the bytes before at + i are digits, and value is the number that they say.
-- Assumes nothing.
use mathlib.Core.Path.{◌≡◌}
use mathlib.Core.Bool.{true}
use Prim.Native.Nat.{◌^◌, ◌≤◌, ◌<◌}
use Rattle.words.specs.Text.{all_digits, hex_value}
use Rattle.words.proofs.unchecked.hex_at.Given as goal

abbrev pub invariant-loop-i : goal.invariant-loop-i
invariant-loop-i l = (l.i ≤ 16) × (l.value < 16 ^ l.i) × (all_digits l.line l.at l.i ≡ true) × (l.value ≡ hex_value l.line l.at l.i)
