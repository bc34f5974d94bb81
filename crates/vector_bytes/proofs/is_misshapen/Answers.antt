-- `is_misshapen` meets its promise: each return is the first wrong thing, and the last test decides.
-- Assumes nothing.
use borrow.Author.Tests.{lt-ltb, le-ltb}
use Rattle.vector_bytes.proofs.CheckLaws.{wrong_first, nothing_wrong, values_decide, flags_decide, too_short, whole_decides}
use Rattle.vector_bytes.proofs.is_misshapen.Goals as goal

pub returns-then-dim-lt1 : goal.returns-then-dim-lt1
returns-then-dim-lt1 c = rw (lt-ltb _ _ c.if-dim-lt1.true)

pub returns-then-dim-gt3 : goal.returns-then-dim-gt3
returns-then-dim-gt3 c = rw (le-ltb _ _ c.if-dim-lt1.false, lt-ltb _ _ c.if-dim-gt3.true)

pub returns-then-p-count : goal.returns-then-p-count
returns-then-p-count c =
    let a = c.args in
    wrong_first a.dim a.n a.p a.b _ c.if-dim-lt1.false c.if-dim-gt3.false c.count_of-count.ensures.0 a.second c.if-p-count.true

pub returns-then-b-count : goal.returns-then-b-count
returns-then-b-count c =
    let a = c.args in
    rw c.in-LongFlags.is
    (too_short a.dim a.n a.p a.b _ c.if-dim-lt1.false c.if-dim-gt3.false c.count_of-count.ensures.0 c.if-p-count.false c.if-b-count.true)

pub returns-in-Nothing : goal.returns-in-Nothing
returns-in-Nothing c =
    let a = c.args in
    rw c.in-Nothing.is
    (nothing_wrong a.dim a.n a.p a.b _ c.if-dim-lt1.false c.if-dim-gt3.false c.count_of-count.ensures.0 c.if-p-count.false)

pub returns-in-Values : goal.returns-in-Values
returns-in-Values c =
    let a = c.args in
    rw c.in-Values.is
    (values_decide a.dim a.n a.p a.b _ c.if-dim-lt1.false c.if-dim-gt3.false c.count_of-count.ensures.0 c.if-p-count.false)

pub returns-in-Flags : goal.returns-in-Flags
returns-in-Flags c =
    let a = c.args in
    rw c.in-Flags.is
    (flags_decide a.dim a.n a.p a.b _ c.if-dim-lt1.false c.if-dim-gt3.false c.count_of-count.ensures.0 c.if-p-count.false)

pub returns-else-b-count : goal.returns-else-b-count
returns-else-b-count c =
    let a = c.args in
    rw c.in-LongFlags.is
    (whole_decides a.dim a.n a.p a.b _ c.if-dim-lt1.false c.if-dim-gt3.false c.count_of-count.ensures.0 c.if-p-count.false c.if-b-count.false)
