-- `map` meets its promise: a turn writes what the next call gave, and the values before it stay.
-- Assumes nothing.
use Rattle.std.proofs.Common.{◌<◌, ◌≢◌, length, arith, rules, ◌∙◌, get_or-set_other, get_or-set_same, below_more}
use Rattle.blocks.proofs.ListedLaws.{is_listed}
use Rattle.blocks.proofs.unchecked.ArrayF64Lent.map.Goals as goal

pub loop-k-preserved : goal.loop-k-preserved
loop-k-preserved g c =
    let at = c.loop-k in (
      search rules,
      λ h means. below_more _ _
          (λ k below. let other : k ≢ at.k = omega arith in rw get_or-set_other (at.invariant.1 h means k below))
          (let within : at.k < length at.new = omega arith in rw get_or-set_same (means _ _ _ (omega arith) c.f.ensures)),
    )

pub returns : goal.returns
returns g c h means =
    let all = c.loop-k.invariant in
    is_listed g.row.L _ c.loop-k.new all.0 (λ k below. let done : k < c.loop-k.k = omega arith in all.1 h means k done)
