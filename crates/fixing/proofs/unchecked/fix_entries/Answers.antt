-- `unchecked::fix_entries` meets its promise: a turn makes the next entry anew, or leaves it as it is where nothing is fixed.
-- Assumes nothing.
use Rattle.std.proofs.Common.{◌≡◌, ℕ, List, Float, ◌+◌, ◌*◌, length, get_or, refl, sym, ap, ◌∙◌, arith, rules}
use Rattle.std.specs.Float.{binary64}
use Rattle.base.proofs.Iterate.{iterate_none, iterate_more}
use Rattle.base.proofs.Sizes.{part_fits}
use Rattle.lent.specs.Steps.{Within}
use Rattle.fixing.specs.Fixing.{is_fixed, fix_entry, fix_entries}
use Rattle.fixing.proofs.FixingLaws.{entry_stays}
use Rattle.fixing.proofs.unchecked.fix_entries.Goals as goal
use Rattle.fixing.proofs.unchecked.fix_entries.Goals.{then-here, else-here+else-is_any_fixed}

pub loop-k-init : goal.loop-k-init
loop-k-init g c = (refl, sym (iterate_none _ 0 0 _ (search rules)))

pub fix_entry-requires : goal.fix_entry-requires
fix_entry-requires g c =
    let a = c.args in
    let n = g.S.Size.DIM in (
      part_fits (n * n) (a.first + c.loop-k.k) (a.first + length a.row.now) (length c.loop-k.values) (omega arith) (omega (arith, c.loop-k.invariant.0, c.requires.stored)),
      c.requires.here,
      c.requires.seen c.loop-k.k (search rules),
    )

pub loop-k-preserved : goal.loop-k-preserved
unfolding fix_entry
loop-k-preserved g c =
    let a = c.args in
    let n = g.S.Size.DIM in
    let k = c.loop-k.k in
    let f : ℕ → List Float → List Float = fix_entry binary64 n a.flags.now a.i a.row.now a.first in
    let here : Within (n * n) (a.first + k) (length c.loop-k.values) = part_fits (n * n) (a.first + k) (a.first + length a.row.now) (length c.loop-k.values) (omega arith) (omega (arith, c.loop-k.invariant.0, c.requires.stored)) in
    let next : c.if-here.values ≡ f k c.loop-k.values = elim c.if-here.branch [
      | then-here w ↦ w.values-is ∙ w.fix_entry.ensures
      | else-here+else-is_any_fixed w ↦ w.values-is ∙ entry_stays binary64 n (is_fixed n a.flags.now a.i) (is_fixed n a.flags.now (get_or a.row.now k 0)) (a.first + k) c.loop-k.values here
          (sym c.is_any_fixed-here.ensures ∙ w.if-here.false) (sym w.is_any_fixed.ensures ∙ w.if-is_any_fixed.false)
    ] in
    (search rules, next ∙ ap (f k) c.loop-k.invariant.1 ∙ sym (iterate_more f 0 k a.values.now (search rules)))

pub returns : goal.returns
unfolding fix_entries
returns g c =
    let e : c.loop-k.k ≡ length c.args.row.now = omega arith in
    rw e at c.loop-k.invariant.1
