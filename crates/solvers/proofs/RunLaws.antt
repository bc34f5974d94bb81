-- A run of at most `limit` steps, of any method: how many numbers its history has, where it ends, and that it was stopped exactly if one of the steps is the last one.
-- Assumes nothing.
use mathlib.Core.Path.{◌≡◌, refl, sym, ap, ◌∙◌}
use mathlib.Core.Logic.{◌⊎◌, inl, inr, ⊎_elim}
use mathlib.Core.Bool.{Bool, true, false, true≢false}
use Prim.Native.Nat.{ℕ, zero, suc, ◌-◌, ◌<◌}
use native.Mathlib.Nat.{not-suc-le-zero, le_of_suc-le-suc, eq-or-lt_of_le}
use native.Mathlib.Omega.{arith}
use lib.ListN.{length, get_or}
use lib.Ieee.{Float}
use Rattle.solvers.specs.Method.{State, Method, run}
use Rattle.solvers.specs.Meaning.{before, stepped, First, Some, None}

-- ---- the first number that passes a test

module _ (test : ℕ → Bool) where
  none_more : (limit : ℕ) → None limit test → test limit ≡ false → None (suc limit) test
  none_more limit before last k h = ⊎_elim (λ e. rw e last) (λ l. before k l) (eq-or-lt_of_le (le_of_suc-le-suc h))

  -- there is a first one, or none
  pub first_or_none : (limit : ℕ) → ((k : ℕ) × First limit test k) ⊎ None limit test
  first_or_none zero = inr (λ k h. absurd (not-suc-le-zero h))
  first_or_none (suc limit) = more (first_or_none limit) (test limit) refl
    where
      more : ((k : ℕ) × First limit test k) ⊎ None limit test → (b : Bool) → test limit ≡ b → ((k : ℕ) × First (suc limit) test k) ⊎ None (suc limit) test
      more (inl found) b e =
          let h = found.1.within in
          inl (found.0, record { within = omega arith; passes = found.1.passes; earliest = found.1.earliest })
      more (inr nothing) true e = inl (limit, record { within = omega arith; passes = e; earliest = nothing })
      more (inr nothing) false e = inr (none_more limit nothing e)

  -- one that passes is not one of none
  pub some_not_none : (limit : ℕ) → Some limit test → None limit test → ⊥
  some_not_none limit found nothing = true≢false (sym found.1.1 ∙ nothing found.0 found.1.0)

  pub some_of_first : (limit k : ℕ) → First limit test k → Some limit test
  some_of_first limit k found = (k, (found.within, found.passes))

  -- so if some pass there is a first one
  pub first_of_some : (limit : ℕ) → Some limit test → (k : ℕ) × First limit test k
  first_of_some limit found = ⊎_elim (λ first. first) (λ nothing. absurd (some_not_none limit found nothing)) (first_or_none limit)

-- ---- the steps

-- whether step k + 1 is the last one
abbrev pub ends : Method → State → ℕ → Bool
ends m s k = m.stop (stepped m s k)

-- no step was the last one
pub record Whole (m : Method) (limit : ℕ) (s : State) : Type 0 where
  pub goes : (run m limit s).stopped ≡ false
  pub long : length (run m limit s).history ≡ limit
  pub leaves : (run m limit s).end ≡ before m s limit

-- step k + 1 was the last one
pub record Ended (m : Method) (limit : ℕ) (s : State) (k : ℕ) : Type 0 where
  pub stops : (run m limit s).stopped ≡ true
  pub long : length (run m limit s).history ≡ suc k
  pub leaves : (run m limit s).end ≡ stepped m s k

-- number k of the history is that of step k + 1
abbrev pub Numbered : Method → ℕ → State → Type 0
Numbered m limit s = (k : ℕ) (d : Float) → k < length (run m limit s).history → get_or (run m limit s).history k d ≡ m.note (stepped m s k)

module _ (m : Method) where
  -- the steps after the first are those from the state that it leaves
  later : (s : State) (k : ℕ) → before m (m.renew (m.move s)) k ≡ before m s (suc k)
  unfolding before
  later s zero = refl
  later s (suc k) = ap (λ (u : State). m.renew (m.move u)) (later s k)

  ends_later : (s : State) (k : ℕ) → ends m (m.renew (m.move s)) k ≡ ends m s (suc k)
  ends_later s k = ap (λ (u : State). m.stop (m.move u)) (later s k)

  pub run_whole : (limit : ℕ) (s : State) → None limit (ends m s) → Whole m limit s
  unfolding run before
  run_whole zero s none = record { goes = refl; long = refl; leaves = refl }
  run_whole (suc limit) s none =
      let first : m.stop (m.move s) ≡ false = none zero (omega arith) in
      let rest = run_whole limit (m.renew (m.move s)) (λ k h. ends_later s k ∙ none (suc k) (omega arith)) in
      record { goes = rw first rest.goes; long = rw first (ap suc rest.long); leaves = rw first (rest.leaves ∙ later s limit) }

  pub run_ended : (limit : ℕ) (s : State) (k : ℕ) → First limit (ends m s) k → Ended m limit s k
  unfolding run before
  run_ended zero s k found = absurd (not-suc-le-zero found.within)
  run_ended (suc limit) s zero found =
      let first : m.stop (m.move s) ≡ true = found.passes in
      record { stops = rw first; long = rw first; leaves = rw first }
  run_ended (suc limit) s (suc k) found =
      let first : m.stop (m.move s) ≡ false = found.earliest zero (omega arith) in
      let within = found.within in
      let rest = run_ended limit (m.renew (m.move s)) k (record { within = le_of_suc-le-suc within; passes = ends_later s k ∙ found.passes; earliest = λ i h. ends_later s i ∙ found.earliest (suc i) (omega arith) }) in
      record { stops = rw first rest.stops; long = rw first (ap suc rest.long); leaves = rw first (rest.leaves ∙ ap m.move (later s k)) }

  -- one of the two holds
  pub run_decided : (limit : ℕ) (s : State) → ((k : ℕ) × (First limit (ends m s) k × Ended m limit s k)) ⊎ (None limit (ends m s) × Whole m limit s)
  run_decided limit s = ⊎_elim (λ found. inl (found.0, (found.1, run_ended limit s found.0 found.1))) (λ none. inr (none, run_whole limit s none)) (first_or_none (ends m s) limit)

  pub run_number : (limit : ℕ) (s : State) → Numbered m limit s
  unfolding run before
  run_number zero s k d h = absurd (not-suc-le-zero h)
  run_number (suc limit) s k d h = go (run_number limit (m.renew (m.move s))) (m.stop (m.move s)) refl k h
    where
      go : Numbered m limit (m.renew (m.move s)) → (b : Bool) → m.stop (m.move s) ≡ b → (k : ℕ) → k < length (run m (suc limit) s).history
          → get_or (run m (suc limit) s).history k d ≡ m.note (stepped m s k)
      go rest true e zero h = rw e
      go rest true e (suc k) h = absurd (not-suc-le-zero (le_of_suc-le-suc (rw e at h)))
      go rest false e zero h = rw e
      go rest false e (suc k) h = rw e (rest k d (le_of_suc-le-suc (rw e at h)) ∙ ap (λ (u : State). m.note (m.move u)) (later s k))

  -- the last number of a run that was stopped is that of its end, and else that of the last step
  pub last_ended : (limit : ℕ) (s : State) (k : ℕ) (d : Float) → Ended m limit s k → get_or (run m limit s).history (length (run m limit s).history - 1) d ≡ m.note (stepped m s k)
  last_ended limit s k d it =
      let e : length (run m limit s).history - 1 ≡ k = omega (arith, it.long) in
      rw e (run_number limit s k d (omega (arith, it.long)))

  pub last_whole : (limit : ℕ) (s : State) (d : Float) → 0 < limit → Whole m limit s → get_or (run m limit s).history (length (run m limit s).history - 1) d ≡ m.note (stepped m s (limit - 1))
  last_whole limit s d some it =
      let e : length (run m limit s).history - 1 ≡ limit - 1 = omega (arith, it.long) in
      rw e (run_number limit s (limit - 1) d (omega (arith, it.long)))
