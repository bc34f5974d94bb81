-- `first_of` meets its promise: the place of the first such byte, and the length where none is found, as `first_byte` counts.
use Rattle.std.proofs.Common.{◌≡◌, ℕ, ◌+◌, List, [], ◌∷◌, ◌≢◌, sym, ◌∙◌, refl, add-one, rules}
use Rattle.std.proofs.lemmas.Iterator.{index_from_first, IsFirst-from_position, YieldsList-from_slice}
use borrow.Author.Tests.{tests, eq-eqb, ne_eqb}
use Rattle.base.specs.First.{first_in}
use Rattle.words.specs.Text.{first_byte}
use Rattle.words.proofs.first_of.Goals as goal

at_none : (byte : ℕ) → first_byte byte [] ≡ 0
unfolding first_byte first_in
at_none byte = refl

at_hit : (byte x : ℕ) (xs : List ℕ) → x ≡ byte → first_byte byte (x ∷ xs) ≡ 0
unfolding first_byte first_in
at_hit byte x xs h = rw (eq-eqb _ _ h)

at_miss : (byte x : ℕ) (xs : List ℕ) → x ≢ byte → first_byte byte (x ∷ xs) ≡ first_byte byte xs + 1
unfolding first_byte first_in
at_miss byte x xs h = rw (ne_eqb _ _ h, add-one)

pub returns-clause-value : goal.returns-clause-value
returns-clause-value c =
    let byte = c.args.byte in
    let text = c.args.text.now in
    let first = IsFirst-from_position _ _ _ (λ x. x ≡ byte) (λ x. x ≢ byte) c.position.ensures.ran (YieldsList-from_slice text cc) (λ x q k. search (rules, tests)) (λ x q k. search (rules, tests)) in
    c.unwrap_or.ensures ∙ sym (index_from_first (first_byte byte) (λ x. x ≡ byte) (λ x. x ≢ byte) (at_none byte) (at_hit byte) (at_miss byte) text _ first)
