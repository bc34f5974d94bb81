-- A run in the middle of its loop: the steps that are left lead where all of them lead.
-- For any method. Assumes nothing.
use mathlib.Core.Path.{◌≡◌, refl, ap, ◌∙◌}
use mathlib.Core.List.{List, [], ◌∷◌, ◌++◌, append_assoc, append-nil}
use mathlib.Core.Bool.{Bool, true, false, cond}
use Prim.Native.Nat.{ℕ, zero, suc, ◌+◌, ◌-◌, ◌≤◌, ◌<◌}
use native.Mathlib.Omega.{arith}
use lib.ListN.{length, set, length-append}
use lib.Ieee.{Float}
use Rattle.solvers.specs.Method.{State, Method, Run, noted, run}
use Rattle.solvers.specs.Promise.{over}
use Rattle.advancing.proofs.OverLaws.{set_over, length_over}

-- a run after numbers that are written already
abbrev pub prefixed : List Float → Run → Run
prefixed done t = record { end = t.end; history = done ++ t.history; stopped = t.stopped }

-- k steps of a run from z are made, s is the state after them and h the history, which began as `words` and has the numbers `lead` before all steps
pub record Going (m : Method) (limit : ℕ) (z : State) (lead words : List Float) (s : State) (h : List Float) (k : ℕ) : Type 0 where
  pub done : List Float
  pub count : length done ≡ k
  pub below : k ≤ limit
  pub room : length lead + limit ≤ length words
  pub rest : run m limit z ≡ prefixed done (run m (limit - k) s)
  pub written : h ≡ over (lead ++ done) words

module _ {m : Method} {limit : ℕ} {z : State} {lead words : List Float} where
  pub going_start : {h : List Float} → length lead + limit ≤ length words → h ≡ over lead words → Going m limit z lead words z h 0
  going_start {h} fits e =
      let none : limit - 0 ≡ limit = omega arith in
      record { done = []; count = refl; below = omega arith; room = fits; rest = rw none; written = rw (append-nil lead) e }

  module _ {s : State} {h : List Float} {k : ℕ} (g : Going m limit z lead words s h k) where
    pub going_length : length h ≡ length words
    going_length = ap length g.written ∙ length_over (lead ++ g.done) words (omega (arith, length-append lead g.done, g.count, g.below, g.room))

    -- the loop ends by its count
    pub going_end : limit ≤ k → run m limit z ≡ record { end = s; history = g.done; stopped = false }
    unfolding run
    going_end b =
        let none : limit - k ≡ 0 = omega (arith, g.below) in
        g.rest ∙ rw (none, append-nil g.done)

    -- one more step
    module _ (b : k < limit) (t : State) (number : Float) (is : t ≡ m.move s) (note : number ≡ m.note t) where
      left : limit - k ≡ suc (limit - (k + 1))
      left = omega arith

      pub going_written : set h (length lead + k) number ≡ over (lead ++ (g.done ++ (number ∷ []))) words
      going_written =
          let e : length (lead ++ g.done) ≡ length lead + k = length-append lead g.done ∙ ap (λ (j : ℕ). length lead + j) g.count in
          rw (g.written, ← e) (set_over (lead ++ g.done) words number (omega (arith, e, g.room)) ∙ ap (λ (l : List Float). over l words) (append_assoc lead g.done (number ∷ [])))

      -- it is the last one
      pub going_stops : m.stop t ≡ true → run m limit z ≡ record { end = t; history = g.done ++ (number ∷ []); stopped = true }
      unfolding run
      going_stops stop = g.rest ∙ rw (left, ← is, stop, note)

      -- it is not
      pub going_on : (s' : State) (h' : List Float) → m.stop t ≡ false → s' ≡ m.renew t → h' ≡ set h (length lead + k) number → Going m limit z lead words s' h' (k + 1)
      unfolding run
      going_on s' h' stop renewed stored =
          record {
            done = g.done ++ (number ∷ []);
            count = length-append g.done (number ∷ []) ∙ omega (arith, g.count);
            below = omega arith;
            room = g.room;
            rest = g.rest ∙ rw (left, ← is, stop, note, renewed, append_assoc g.done (m.note t ∷ []) (run m (limit - (k + 1)) (m.renew t)).history);
            written = stored ∙ going_written;
          }

-- of two runs with no more numbers than that, so has the one that is chosen
pub short : (t later : Run) (limit : ℕ) (stop : Bool) → length t.history ≤ limit → length later.history ≤ limit → length (cond stop t later).history ≤ limit
short t later limit true a b = a
short t later limit false a b = b

-- a history has no more numbers than steps are allowed
pub run_short : (m : Method) (limit : ℕ) (s : State) → length (run m limit s).history ≤ limit
unfolding run
run_short m zero s = omega arith
run_short m (suc limit) s =
    let later = run_short m limit (m.renew (m.move s)) in
    short (record { end = m.move s; history = m.note (m.move s) ∷ []; stopped = true }) (noted (m.note (m.move s)) (run m limit (m.renew (m.move s)))) (suc limit)
    (m.stop (m.move s)) (omega arith) (omega (arith, later))
