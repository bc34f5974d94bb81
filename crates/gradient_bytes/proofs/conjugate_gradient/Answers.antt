-- `conjugate_gradient` meets its promise: refused by the lengths of its bytes, or solved in room for its words.
-- Assumes nothing.
use mathlib.Core.Path.{sym, ap, ◌∙◌}
use Rattle.std.proofs.Common.{rules}
use Rattle.answers.specs.Numbers.{number_of}
use Rattle.solver_bytes.specs.Lent.{bytes_lent}
use Rattle.gradient_bytes.proofs.CheckLaws.{plain_in_room, plain_decides, plain_refuses}
use Rattle.gradient_bytes.proofs.conjugate_gradient.Goals as goal

pub solve_in_room-requires : goal.solve_in_room-requires
solve_in_room-requires c =
    let a = c.args in
    plain_in_room a.dim a.limit _ _ _ _ _ _ _ _ _ (sym c.in_ok-check_plain_bytes.ensures)

pub shape_of-r : goal.shape_of-r
shape_of-r c = c.solve_in_room.auto.r

pub shape_of-u : goal.shape_of-u
shape_of-u c = c.solve_in_room.auto.u

pub shape_of-ap : goal.shape_of-ap
shape_of-ap c = c.solve_in_room.auto.ap

pub shape_of-p : goal.shape_of-p
shape_of-p c = c.solve_in_room.auto.p

pub shape_of-history : goal.shape_of-history
shape_of-history c = c.solve_in_room.auto.history

pub returns : goal.returns
returns c =
    let a = c.args in
    plain_decides a.dim a.limit a.offsets.now a.columns.now a.values.now a.diagonal.now (bytes_lent a.r.now a.u.now a.ap.now a.p.now a.history.now) _ _ _ _ c.check_plain_bytes.ensures _ (ap number_of (sym c.in_ok-check_plain_bytes.was)) c.solve_in_room.ensures

pub returns-in_err-check_plain_bytes : goal.returns-in_err-check_plain_bytes
returns-in_err-check_plain_bytes c =
    let a = c.args in
    let was = bytes_lent a.r.now a.u.now a.ap.now a.p.now a.history.now in
    plain_refuses a.dim a.limit a.offsets.now a.columns.now a.values.now a.diagonal.now (bytes_lent a.r.now a.u.now a.ap.now a.p.now a.history.now) _ _ was _ c.check_plain_bytes.ensures _ _ (search rules) (ap number_of (sym c.in_err-check_plain_bytes.was))
