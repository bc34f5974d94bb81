-- The way back to the bytes: what is written is what the run leaves of them, and the history has room for its numbers.
-- Assumes nothing.
use mathlib.Core.Path.{◌≡◌, refl, sym, ap, ◌∙◌}
use mathlib.Core.List.{List, ◌++◌}
use mathlib.Core.Bool.{Bool, true, false, cond}
use mathlib.Core.Option.{Option, none, some}
use Prim.Native.Nat.{ℕ, ◌*◌, ◌≤◌}
use native.Mathlib.Omega.{arith}
use lib.ListN.{length, take, drop, length-append}
use lib.Seq.{length-take-le}
use lib.Ieee.{Float, Format, binary64}
use Rattle.std.specs.Prelude.{Ok, Err}
use Rattle.answers.specs.Numbers.{AnswerOf}
use Rattle.answers.specs.Checks.{Check, none_holds}
use Rattle.solvers.specs.declared.Solution.{Solution}
use Rattle.solvers.specs.Method.{Run}
use Rattle.solvers.specs.Promise.{Lent, over, left_by, solve_values}
use Rattle.advancing.proofs.OverLaws.{take_over}
use Rattle.wire.specs.Bytes.{bytes_of}
use Rattle.wire.proofs.ByteLaws.{length_bytes}
use Rattle.solve_outcomes.specs.Ends.{SolveEnds}
use Rattle.solver_bytes.specs.Lent.{LentBytes, bytes_lent, over_bytes, bytes_left_by}
use Rattle.solver_bytes.specs.Rooms.{count_of, written_back}

-- a solution, or another
abbrev solution_or : Solution → Option Solution → Solution
solution_or other none = other
solution_or other (some solution) = solution

abbrev is_some : Option Solution → ℕ
is_some none = 0
is_some (some solution) = 1

differ : (solution : Solution) → some solution ≡ none → ⊥
differ solution e = absurd (omega (arith, ap is_some e))

-- what a run left of the words, written back, is what it leaves of the bytes
back : (f : Format) (t : Run) (s : Solution) (words : List Float) (left : Lent) (old : LentBytes) → s.count ≡ length t.history → left ≡ left_by t words
    → written_back f (Ok s) left old ≡ bytes_left_by f t old.history
back f t s words left old count is = rw (is, count, take_over t.history words)

settled : (f : Format) (t : Run) (solution : Solution) → solution.count ≡ length t.history → (result : AnswerOf Solution) (words : List Float) (was left : Lent) (old out : LentBytes) (b : Bool)
    → solve_values result ≡ cond b (some solution) none → left ≡ cond b (left_by t words) was → out ≡ written_back f result left old → out ≡ cond b (bytes_left_by f t old.history) old
settled f t solution count (Ok s) words was left old out true values is wrote =
    wrote ∙ back f t s words left old (ap (λ (v : Option Solution). (solution_or s v).count) values ∙ count) is
settled f t solution count (Ok s) words was left old out false values is wrote = absurd (differ s values)
settled f t solution count (Err why) words was left old out true values is wrote = absurd (differ solution (sym values))
settled f t solution count (Err why) words was left old out false values is wrote = wrote

pub written_back_lem : (f : Format) (checks : List Check) (t : Run) (solution : Solution) → solution.count ≡ length t.history → (result : AnswerOf Solution) (words : List Float) (was left : Lent) (old out : LentBytes)
    → SolveEnds {A = Lent} checks solution result (left_by t words) was left → out ≡ written_back f result left old
    → SolveEnds {A = LentBytes} checks solution result (bytes_left_by f t old.history) old out
written_back_lem f checks t solution count result words was left old out end wrote =
    record { number = end.number; values = end.values; lent = settled f t solution count result words was left old out (none_holds checks) end.values end.lent wrote }

-- the numbers of a history are words of it
over_least : (numbers words : List Float) → length numbers ≤ length (over numbers words)
unfolding over
over_least numbers words = omega (arith, length-append numbers (drop (length numbers) words))

fits : (t : Run) (solution : Solution) → solution.count ≡ length t.history → (result : AnswerOf Solution) (words : List Float) (was left : Lent) (b : Bool) → solve_values result ≡ cond b (some solution) none
    → left ≡ cond b (left_by t words) was → count_of result ≤ length left.history
fits t solution count (Ok s) words was left true values is =
    let same : s.count ≡ length t.history = ap (λ (v : Option Solution). (solution_or s v).count) values ∙ count in
    let long : length left.history ≡ length (over t.history words) = ap (λ (l : Lent). length l.history) is in
    omega (arith, same, long, over_least t.history words)
fits t solution count (Ok s) words was left false values is = absurd (differ s values)
fits t solution count (Err why) words was left b values is = omega arith

pub count_fits : (checks : List Check) (t : Run) (solution : Solution) → solution.count ≡ length t.history → (result : AnswerOf Solution) (words : List Float) (was left : Lent)
    → SolveEnds {A = Lent} checks solution result (left_by t words) was left → count_of result ≤ length left.history
count_fits checks t solution count result words was left end = fits t solution count result words was left (none_holds checks) end.values end.lent

-- ---- the words of a history over its bytes

pub numbers_over : (words : List ℕ) (numbers : List Float) (history : List ℕ) (count : ℕ) → count ≤ length numbers → words ≡ bytes_of binary64 (take count numbers)
    → words ++ drop (8 * count) history ≡ over_bytes (bytes_of binary64 (take count numbers)) history
unfolding over_bytes
numbers_over words numbers history count fits is =
    let long : length (bytes_of binary64 (take count numbers)) ≡ 8 * count = length_bytes binary64 (take count numbers) ∙ ap (λ (k : ℕ). 8 * k) (length-take-le count numbers fits) in
    rw (is, long)

-- what was encoded, slice by slice
pub ended_back : (f : Format) (s : Solution) (solve : AnswerOf Solution) → solve ≡ Ok s → (left : Lent) (old : LentBytes) (r x q p history : List ℕ) → r ≡ bytes_of f left.r
    → x ≡ bytes_of f left.x → q ≡ bytes_of f left.q → p ≡ bytes_of f left.p → history ≡ over_bytes (bytes_of f (take s.count left.history)) old.history
    → bytes_lent r x q p history ≡ written_back f solve left old
ended_back f s solve is left old r x q p history er ex eq ep eh = rw (is, er, ex, eq, ep, eh)
