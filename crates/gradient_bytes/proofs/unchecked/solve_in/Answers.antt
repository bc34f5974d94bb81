-- `unchecked::solve_in` meets its promise: the solve with the decoded words of the matrix.
-- Assumes nothing.
use Rattle.solver_bytes.specs.Lent.{bytes_lent}
use Rattle.gradient_bytes.proofs.WayLaws.{passed_at, of_bytes_lem}
use Rattle.gradient_bytes.proofs.unchecked.solve_in.Goals as goal

pub decode_pattern-requires : goal.decode_pattern-requires
decode_pattern-requires c = (c.requires.0.of_offsets, c.requires.0.of_columns)

pub decode_both-requires : goal.decode_both-requires
decode_both-requires c = (c.requires.0.of_values, c.requires.0.of_diagonal)

pub solve_words-requires : goal.solve_words-requires
solve_words-requires c =
    let pattern = c.decode_pattern.auto in
    let blocks = c.decode_both.auto in
    (c.requires.1, passed_at c.args.dim c.args.limit _ _ _ _ _ _ _ _ _ _ _ _ pattern.offs pattern.cols blocks.first blocks.second c.requires.2)

pub shape_of-offs : goal.shape_of-offs
shape_of-offs c = c.decode_pattern.auto.offs

pub shape_of-cols : goal.shape_of-cols
shape_of-cols c = c.decode_pattern.auto.cols

pub shape_of-vals : goal.shape_of-vals
shape_of-vals c = c.decode_both.auto.first

pub shape_of-diag : goal.shape_of-diag
shape_of-diag c = c.decode_both.auto.second

pub shape_of-r : goal.shape_of-r
shape_of-r c = c.solve_words.auto.r

pub shape_of-u : goal.shape_of-u
shape_of-u c = c.solve_words.auto.u

pub shape_of-ap : goal.shape_of-ap
shape_of-ap c = c.solve_words.auto.ap

pub shape_of-p : goal.shape_of-p
shape_of-p c = c.solve_words.auto.p

pub shape_of-history : goal.shape_of-history
shape_of-history c = c.solve_words.auto.history

pub returns : goal.returns
returns c =
    let a = c.args in
    let pattern = c.decode_pattern.ensures in
    let blocks = c.decode_both.ensures in
    of_bytes_lem a.dim a.limit a.tolerance a.offsets.now a.columns.now a.values.now a.diagonal.now _ _ _ _
    (bytes_lent a.r.now a.u.now a.ap.now a.p.now a.history.now) _ _ pattern.0 pattern.1 blocks.0 blocks.1 c.solve_words.ensures
