-- `preconditioned_conjugate_gradient` meets its promise: refused by the lengths of its bytes, or solved in room for its words.
-- Assumes nothing.
use mathlib.Core.Path.{sym, ap, ◌∙◌}
use Rattle.std.proofs.Common.{rules}
use Rattle.answers.specs.Numbers.{number_of}
use Rattle.solver_bytes.specs.Lent.{bytes_lent}
use Rattle.preconditioned_bytes.proofs.CheckLaws.{all_in_room, words_decide, lengths_refuse}
use Rattle.preconditioned_bytes.proofs.preconditioned_conjugate_gradient.Goals as goal

pub solve_in_room-requires : goal.solve_in_room-requires
solve_in_room-requires c =
    let a = c.args in
    all_in_room a.dim a.limit _ _ _ _ _ _ _ _ _ _ _ _ _ _ (sym c.in_ok-check_preconditioned_bytes.ensures)

pub shape_of-r : goal.shape_of-r
shape_of-r c = c.solve_in_room.auto.r

pub shape_of-x : goal.shape_of-x
shape_of-x c = c.solve_in_room.auto.x

pub shape_of-pr : goal.shape_of-pr
shape_of-pr c = c.solve_in_room.auto.pr

pub shape_of-p : goal.shape_of-p
shape_of-p c = c.solve_in_room.auto.p

pub shape_of-history : goal.shape_of-history
shape_of-history c = c.solve_in_room.auto.history

pub returns : goal.returns
returns c =
    let a = c.args in
    words_decide a.dim a.limit a.starts.now a.entries.now a.a_values.now a.a_diagonal.now a.offsets.now a.columns.now a.splits.now a.diagonal.now a.values.now (bytes_lent a.r.now a.x.now a.pr.now a.p.now a.history.now) _ _ _ _
    c.check_preconditioned_bytes.ensures _ (ap number_of (sym c.in_ok-check_preconditioned_bytes.was)) c.solve_in_room.ensures

pub returns-in_err-check_preconditioned_bytes : goal.returns-in_err-check_preconditioned_bytes
returns-in_err-check_preconditioned_bytes c =
    let a = c.args in
    let was = bytes_lent a.r.now a.x.now a.pr.now a.p.now a.history.now in
    lengths_refuse a.dim a.limit a.starts.now a.entries.now a.a_values.now a.a_diagonal.now a.offsets.now a.columns.now a.splits.now a.diagonal.now a.values.now (bytes_lent a.r.now a.x.now a.pr.now a.p.now a.history.now) _ _ was _
    c.check_preconditioned_bytes.ensures _ _ (search rules) (ap number_of (sym c.in_err-check_preconditioned_bytes.was))
