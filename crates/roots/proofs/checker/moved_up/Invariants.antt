-- `roots::checker::moved_up` meets its contract. The invariant: moved is digits * 2 ^ k, below 2 ^ 55.
-- Assumes nothing.
use Rattle.std.proofs.Common.{◌≡◌, ◌*◌, ◌^◌, ◌<◌, ◌≤◌}
use Rattle.roots.proofs.checker.moved_up.Given as goal

abbrev pub invariant-loop-k : goal.invariant-loop-k
invariant-loop-k l = (l._k ≤ l.places) × (l.moved < 2 ^ 55) × (l.moved ≡ l.digits * 2 ^ l._k)
