-- `unchecked::check_rules` meets its promise: each return answers the first rule that does not hold.
-- Assumes nothing.
use mathlib.Core.Path.{◌≡◌, sym, ap, ◌∙◌}
use mathlib.Core.Bool.{true}
use Rattle.std.proofs.Common.{rules}
use Rattle.answers.specs.Numbers.{number_of}
use Rattle.answers.proofs.SameAnswer.{passed_up, ok_has_none}
use Rattle.patterns.specs.Pattern.{valid_pattern, valid_splits}
use Rattle.factors.specs.Copy.{all_have_places}
use Rattle.factor_check.proofs.CheckLaws.{rows_pass}
use Rattle.copying.proofs.CheckLaws.{patterns_of, by_factor_lem}
use Rattle.copying.proofs.unchecked.check_rules.Goals as goal

pub check_rows-factor-requires : goal.check_rows-factor-requires
check_rows-factor-requires c = (c.requires.1, c.requires.3)

pub is_surely_right-requires : goal.is_surely_right-requires
is_surely_right-requires c =
    -- a factor whose check refuses nothing is right
    let right : (c.is_ok.result ≡ true →
    let a = c.args in (valid_pattern a.offsets.now a.columns.now ≡ true) × (valid_splits a.offsets.now a.columns.now a.splits.now ≡ true)) = λ ok. let a = c.args in
    rows_pass (valid_pattern a.offsets.now a.columns.now) (valid_splits a.offsets.now a.columns.now a.splits.now)
    (sym c.check_rows-factor.ensures ∙ ok_has_none _ (sym c.is_ok.ensures.value ∙ ok)) in
    (c.requires.0, c.requires.1, c.requires.2, λ e. (right e).0)

pub returns-then-is_surely_right : goal.returns-then-is_surely_right
returns-then-is_surely_right c =
    -- a factor whose check refuses nothing is right
    let right : (c.is_ok.result ≡ true →
    let a = c.args in (valid_pattern a.offsets.now a.columns.now ≡ true) × (valid_splits a.offsets.now a.columns.now a.splits.now ≡ true)) = λ ok. let a = c.args in
    rows_pass (valid_pattern a.offsets.now a.columns.now) (valid_splits a.offsets.now a.columns.now a.splits.now)
    (sym c.check_rows-factor.ensures ∙ ok_has_none _ (sym c.is_ok.ensures.value ∙ ok)) in
    let found = c.is_surely_right.ensures c.if-is_surely_right.true in
    let factor = right found.0 in
    rw (found.1, found.2, factor.0, factor.1) (ok_has_none _ (sym c.is_ok.ensures.value ∙ found.0))

pub returns-then-not-is_valid_pattern : goal.returns-then-not-is_valid_pattern
returns-then-not-is_valid_pattern c = rw (sym c.is_valid_pattern.ensures ∙ c.if-not-is_valid_pattern.true)

pub returns-in_err-factor : goal.returns-in_err-factor
returns-in_err-factor c =
    let on = passed_up (search rules) (sym (ap number_of c.in_err-factor.was) ∙ c.check_rows-factor.ensures) in
    -- past the second test A is valid
    let valid : (let a = c.args in valid_pattern a.starts.now a.entries.now ≡ true) = sym c.is_valid_pattern.ensures ∙ c.if-not-is_valid_pattern.false in
    let a = c.args in
    by_factor_lem (valid_pattern a.starts.now a.entries.now) (valid_pattern a.offsets.now a.columns.now) (valid_splits a.offsets.now a.columns.now a.splits.now)
    (all_have_places a.starts.now a.entries.now a.offsets.now a.columns.now) _ valid on.number on.counts

pub has_all_places-requires : goal.has_all_places-requires
has_all_places-requires c =
    -- past the second test A is valid
    let valid : (let a = c.args in valid_pattern a.starts.now a.entries.now ≡ true) = sym c.is_valid_pattern.ensures ∙ c.if-not-is_valid_pattern.false in
    -- and past the third the factor is right
    let also : (let a = c.args in (valid_pattern a.offsets.now a.columns.now ≡ true) × (valid_splits a.offsets.now a.columns.now a.splits.now ≡ true)) = let a = c.args in
    rows_pass (valid_pattern a.offsets.now a.columns.now) (valid_splits a.offsets.now a.columns.now a.splits.now) (sym c.check_rows-factor.ensures ∙ ap number_of c.in_ok-factor.was) in
    let a = c.args in
    patterns_of a.starts.now a.entries.now a.offsets.now a.columns.now c.requires.0 c.requires.1 c.requires.2 valid also.0

pub returns-then-not-has_all_places : goal.returns-then-not-has_all_places
returns-then-not-has_all_places c =
    -- past the second test A is valid
    let valid : (let a = c.args in valid_pattern a.starts.now a.entries.now ≡ true) = sym c.is_valid_pattern.ensures ∙ c.if-not-is_valid_pattern.false in
    -- and past the third the factor is right
    let also : (let a = c.args in (valid_pattern a.offsets.now a.columns.now ≡ true) × (valid_splits a.offsets.now a.columns.now a.splits.now ≡ true)) = let a = c.args in
    rows_pass (valid_pattern a.offsets.now a.columns.now) (valid_splits a.offsets.now a.columns.now a.splits.now) (sym c.check_rows-factor.ensures ∙ ap number_of c.in_ok-factor.was) in
    rw (valid, also.0, also.1, sym c.has_all_places.ensures ∙ c.if-not-has_all_places.true)

pub returns : goal.returns
returns c =
    -- past the second test A is valid
    let valid : (let a = c.args in valid_pattern a.starts.now a.entries.now ≡ true) = sym c.is_valid_pattern.ensures ∙ c.if-not-is_valid_pattern.false in
    -- and past the third the factor is right
    let also : (let a = c.args in (valid_pattern a.offsets.now a.columns.now ≡ true) × (valid_splits a.offsets.now a.columns.now a.splits.now ≡ true)) = let a = c.args in
    rows_pass (valid_pattern a.offsets.now a.columns.now) (valid_splits a.offsets.now a.columns.now a.splits.now) (sym c.check_rows-factor.ensures ∙ ap number_of c.in_ok-factor.was) in
    rw (valid, also.0, also.1, sym c.has_all_places.ensures ∙ c.if-not-has_all_places.false)
