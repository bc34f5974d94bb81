-- `unchecked::check_plain` meets its promise: refused by a length, by the pattern, or by none.
-- Assumes nothing.
use Rattle.std.proofs.Common.{rules}
use Rattle.answers.proofs.SameAnswer.{passed_up}
use mathlib.Core.Path.{◌≡◌, refl, sym, ◌∙◌}
use mathlib.Core.List.{List, [], ◌∷◌, ◌++◌}
use mathlib.Core.Bool.{Bool, true, false, not}
use lib.ListN.{length}
use Rattle.answers.specs.Checks.{Check, ◌when◌, first_of}
use Rattle.answers.proofs.EndLaws.{none_of_zero, refused_earlier, left_to_later}
use Rattle.patterns.specs.Pattern.{valid_pattern}
use Rattle.solvers.specs.Checks.{plain_lengths}
use Rattle.gradient.proofs.CheckLaws.{sized}
use borrow.Author.Rules.{rules}
use Rattle.gradient.proofs.unchecked.check_plain.Goals as goal

-- the rule that is left
wrong_rule : (valid : Bool) → valid ≡ false → 3 ≡ first_of ((3 when not valid) ∷ [])
wrong_rule valid e = rw e

right_rule : (valid : Bool) → valid ≡ true → 0 ≡ first_of ((3 when not valid) ∷ [])
right_rule valid e = rw e

pub returns-in_err-check_lengths : goal.returns-in_err-check_lengths
returns-in_err-check_lengths g c =
    let on = passed_up (search rules) c.in_err-check_lengths.ensures in
    -- the two lists of checks
    let lengths : List Check = let a = c.args in
    plain_lengths g.S.Size.DIM a.limit (length a.offsets.now) (length a.columns.now) a.values a.diagonal a.r a.u a.ap a.p a.history in
    let rules : List Check = let a = c.args in (3 when not (valid_pattern a.offsets.now a.columns.now)) ∷ [] in
    on.number ∙ sym (refused_earlier lengths rules (λ z. on.counts (on.number ∙ z)))

pub is_valid_pattern-requires : goal.is_valid_pattern-requires
is_valid_pattern-requires g c =
    -- the two lists of checks
    let lengths : List Check = let a = c.args in
    plain_lengths g.S.Size.DIM a.limit (length a.offsets.now) (length a.columns.now) a.values a.diagonal a.r a.u a.ap a.p a.history in
    -- past the test no length is wrong
    let passed : first_of lengths ≡ 0 = sym c.in_ok-check_lengths.ensures in
    let a = c.args in
    sized g.S.Size.DIM a.limit (length a.offsets.now) (length a.columns.now) a.values a.diagonal a.r a.u a.ap a.p a.history passed

pub returns-then-not-is_valid_pattern : goal.returns-then-not-is_valid_pattern
returns-then-not-is_valid_pattern g c =
    -- the two lists of checks
    let lengths : List Check = let a = c.args in
    plain_lengths g.S.Size.DIM a.limit (length a.offsets.now) (length a.columns.now) a.values a.diagonal a.r a.u a.ap a.p a.history in
    let rules : List Check = let a = c.args in (3 when not (valid_pattern a.offsets.now a.columns.now)) ∷ [] in
    -- past the test no length is wrong
    let passed : first_of lengths ≡ 0 = sym c.in_ok-check_lengths.ensures in
    let later : first_of rules ≡ first_of (lengths ++ rules) = sym (left_to_later lengths rules (none_of_zero lengths refl passed)) in
    wrong_rule _ (sym c.is_valid_pattern.ensures ∙ c.if-not-is_valid_pattern.true) ∙ later

pub returns : goal.returns
returns g c =
    -- the two lists of checks
    let lengths : List Check = let a = c.args in
    plain_lengths g.S.Size.DIM a.limit (length a.offsets.now) (length a.columns.now) a.values a.diagonal a.r a.u a.ap a.p a.history in
    let rules : List Check = let a = c.args in (3 when not (valid_pattern a.offsets.now a.columns.now)) ∷ [] in
    -- past the test no length is wrong
    let passed : first_of lengths ≡ 0 = sym c.in_ok-check_lengths.ensures in
    let later : first_of rules ≡ first_of (lengths ++ rules) = sym (left_to_later lengths rules (none_of_zero lengths refl passed)) in
    c.in_ok-check_lengths.ensures ∙ passed
    ∙ right_rule _ (sym c.is_valid_pattern.ensures ∙ c.if-not-is_valid_pattern.false) ∙ later
