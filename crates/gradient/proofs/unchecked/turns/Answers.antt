-- `unchecked::turns` meets its promise: the steps that are left lead where all of them lead.
-- Assumes nothing.
use Rattle.gradient.proofs.TurnLaws.{turning_start, turning_on, turning_stops, turning_end}
use borrow.Author.Rules.{rules}
use Rattle.gradient.proofs.unchecked.turns.Goals as goal

pub loop-k-init : goal.loop-k-init
loop-k-init g c = turning_start c.requires.0 c.requires.1

pub returns-then-ratio-tolerance : goal.returns-then-ratio-tolerance
returns-then-ratio-tolerance g c =
    let l = c.loop-k in
    turning_stops l.invariant (search rules) _ _ _ _ _ c.advance-square.ensures c.square_root-ratio.ensures.0 c.if-ratio-tolerance.true

pub loop-k-preserved : goal.loop-k-preserved
loop-k-preserved g c =
    let l = c.loop-k in
    let kept = c.advance-square.auto in
    turning_on l.invariant (search rules) _ _ _ _ _ c.advance-square.ensures c.square_root-ratio.ensures.0 _ c.if-ratio-tolerance.false c.scale_and_add_vec.ensures
    kept.r kept.x kept.q c.scale_and_add_vec.auto.p

pub returns : goal.returns
returns g c = turning_end c.loop-k.invariant (search rules)

pub offset_bounds-history-k : goal.offset_bounds-history-k
offset_bounds-history-k g c = search rules
