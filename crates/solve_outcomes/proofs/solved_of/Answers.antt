-- `solved_of` meets its promise, case by case.
-- Assumes nothing.
use Rattle.solve_outcomes.proofs.solved_of.Goals as goal

pub returns-in-Ok : goal.returns-in-Ok
returns-in-Ok c = rw (c.in-Ok.is, c.verdict_number.ensures)

pub returns-in-Err : goal.returns-in-Err
returns-in-Err c = rw (c.in-Err.is, c.number.ensures)
