-- Rooms for the words of a solver's vectors: which bytes they hold, what is read into them and what is written back. No promise of a call cites these.
-- Definitions only.
use Rattle.std.specs.Prelude.{Ok, Err}
use Rattle.solvers.specs.declared.Solution.{Solution}
use Rattle.answers.specs.Numbers.{AnswerOf}
use Rattle.std.specs.Prelude.{◌≡◌, false, List, ℕ, ◌*◌, ◌≤◌, take, Float}
use Rattle.std.specs.Float.{Format}
use Rattle.answers.specs.Limits.{outside_of}
use Rattle.solvers.specs.Promise.{Lent}
use Rattle.wire.specs.Bytes.{values_in, bytes_of}
use Rattle.pattern_bytes.specs.Checks.{Held}
use Rattle.solver_bytes.specs.Lent.{LentBytes, over_bytes}

-- N is 1, 2 or 3; a room of three words to a row holds each vector, and one of 4,098 the numbers of the history, for which its bytes are enough
pub record HeldVectors (dim numbers r x q p history : ℕ) : Type 0 where
  pub range : outside_of 1 3 dim ≡ false
  pub of_r : Held 8 12288 r
  pub of_x : Held 8 12288 x
  pub of_q : Held 8 12288 q
  pub of_p : Held 8 12288 p
  pub few : numbers ≤ 4098
  pub enough : 8 * numbers ≤ history

-- a room has exactly the words of the vectors
pub record FilledVectors (residual solution product direction r x q p : ℕ) : Type 0 where
  pub of_r : r ≡ 8 * residual
  pub of_x : x ≡ 8 * solution
  pub of_q : q ≡ 8 * product
  pub of_p : p ≡ 8 * direction

-- words that were read from the bytes of the vectors
pub record DecodedVectors (f : Format) (residual solution product direction : List Float) (r x q p : List ℕ) : Type 0 where
  pub r_is : residual ≡ values_in f r
  pub x_is : solution ≡ values_in f x
  pub q_is : product ≡ values_in f q
  pub p_is : direction ≡ values_in f p

-- how many numbers a solve has written to its history
abbrev pub count_of : AnswerOf Solution → ℕ
count_of (Ok ended) = ended.count
count_of (Err why) = 0

-- what becomes of bytes when the words that a solve left are written over them
abbrev pub written_back : Format → AnswerOf Solution → Lent → LentBytes → LentBytes
written_back f (Ok ended) left old =
    record {
      r = bytes_of f left.r;
      x = bytes_of f left.x;
      q = bytes_of f left.q;
      p = bytes_of f left.p;
      history = over_bytes (bytes_of f (take ended.count left.history)) old.history;
    }
written_back f (Err why) left old = old
