-- The ends of a call that checks its lengths first and then its pattern, over any operation.
-- Assumes nothing.
use mathlib.Core.Path.{◌≡◌, sym, ◌∙◌}
use mathlib.Core.List.{List, [], ◌∷◌, ◌++◌}
use mathlib.Core.Bool.{Bool, true, false, not}
use Rattle.std.specs.Prelude.{Err}
use Rattle.answers.specs.Numbers.{Answer}
use Rattle.answers.specs.declared.Refusal.TheVariants.{Pattern}
use Rattle.answers.specs.Numbers.{number_of}
use Rattle.answers.specs.Checks.{Check, ◌when◌, first_of}
use Rattle.answers.specs.Promise.{Ends, names}
use Rattle.answers.proofs.EndLaws.{none_of_zero, ends_later, ends_earlier}

module _ {A : Type 0} (lengths : List Check) (valid : Bool) (answer : Answer) (first : number_of answer ≡ first_of lengths) where
  pub by_lengths : (new old : A) → (number_of answer ≡ 0 → ⊥) → Ends (lengths ++ ((3 when not valid) ∷ [])) answer new old old
  by_lengths new old other = ends_earlier lengths ((3 when not valid) ∷ []) answer new old first other

  module _ (unnamed : names 0 lengths ≡ false) (zero_is : number_of answer ≡ 0) where
    pub by_pattern : (new old : A) → valid ≡ false → Ends (lengths ++ ((3 when not valid) ∷ [])) (Err Pattern) new old old
    by_pattern new old invalid =
        ends_later lengths ((3 when not valid) ∷ []) (Err Pattern) new old old (none_of_zero lengths unnamed (sym first ∙ zero_is))
        (record { number = rw invalid; lent = rw invalid })

    pub at_last : (new old left : A) → valid ≡ true → left ≡ new → Ends (lengths ++ ((3 when not valid) ∷ [])) answer new old left
    at_last new old left right made =
        ends_later lengths ((3 when not valid) ∷ []) answer new old left (none_of_zero lengths unnamed (sym first ∙ zero_is))
        (record { number = rw right zero_is; lent = rw right made })

-- two lists, each as it should be
pub pair_of : {A B : Type 0} {a c : A} {b d : B} → a ≡ c → b ≡ d → ◌≡◌ {A = A × B} (a, b) (c, d)
pair_of p q = cc
