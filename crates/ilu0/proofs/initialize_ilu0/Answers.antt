-- `initialize_ilu0` meets its promise: each way out is its number.
-- Assumes nothing.
use mathlib.Core.Path.{◌≡◌, sym, ◌∙◌}
use mathlib.Core.Bool.{true, false}
use native.Mathlib.Omega.{arith}
use lib.ListN.{length}
use Rattle.patterns.specs.Pattern.{rows_of, valid_pattern}
use Rattle.patterns.specs.Checks.{too_large}
use Rattle.patterns.proofs.SizeLaws.{rows_least}
use Rattle.fill.specs.Promise.{wrong_outputs}
use Rattle.ilu0.proofs.AnswerLaws.{wrong_size, wrong_shape_lem, wrong_pattern, no_room, ready_of, all_done}
use Rattle.ilu0.proofs.initialize_ilu0.Goals as goal

pub returns-then-is_too_large : goal.returns-then-is_too_large
returns-then-is_too_large c = wrong_size _ _ _ _ _ (sym c.is_too_large.ensures ∙ c.if-is_too_large.true)

pub overflow_sub-n : goal.overflow_sub-n
overflow_sub-n c =
    -- what each check that was passed has shown
    let sized : too_large (length c.args.starts.now) (length c.args.entries.now) ≡ false = sym c.is_too_large.ensures ∙ c.if-is_too_large.false in
    let a = c.args in
    omega (arith, rows_least (length a.starts.now) (length a.entries.now) sized)

pub returns-then-is_wrong_output : goal.returns-then-is_wrong_output
returns-then-is_wrong_output c =
    -- what each check that was passed has shown
    let sized : too_large (length c.args.starts.now) (length c.args.entries.now) ≡ false = sym c.is_too_large.ensures ∙ c.if-is_too_large.false in
    wrong_shape_lem _ _ _ _ _ sized (sym c.is_wrong_output.ensures ∙ c.if-is_wrong_output.true)

pub is_valid_pattern-requires : goal.is_valid_pattern-requires
is_valid_pattern-requires c =
    -- what each check that was passed has shown
    let sized : too_large (length c.args.starts.now) (length c.args.entries.now) ≡ false = sym c.is_too_large.ensures ∙ c.if-is_too_large.false in
    sized

pub returns-then-not-is_valid_pattern : goal.returns-then-not-is_valid_pattern
returns-then-not-is_valid_pattern c =
    -- what each check that was passed has shown
    let sized : too_large (length c.args.starts.now) (length c.args.entries.now) ≡ false = sym c.is_too_large.ensures ∙ c.if-is_too_large.false in
    let formed : (let a = c.args in wrong_outputs (rows_of a.starts.now) (length a.offsets.now) (length a.columns.now) (length a.splits.now) ≡ false) = sym c.is_wrong_output.ensures ∙ c.if-is_wrong_output.false in
    wrong_pattern _ _ _ _ _ sized formed (sym c.is_valid_pattern.ensures ∙ c.if-not-is_valid_pattern.true)

pub returns-then-columns-entries : goal.returns-then-columns-entries
returns-then-columns-entries c =
    -- what each check that was passed has shown
    let sized : too_large (length c.args.starts.now) (length c.args.entries.now) ≡ false = sym c.is_too_large.ensures ∙ c.if-is_too_large.false in
    let formed : (let a = c.args in wrong_outputs (rows_of a.starts.now) (length a.offsets.now) (length a.columns.now) (length a.splits.now) ≡ false) = sym c.is_wrong_output.ensures ∙ c.if-is_wrong_output.false in
    let ordered : (let a = c.args in valid_pattern a.starts.now a.entries.now ≡ true) = sym c.is_valid_pattern.ensures ∙ c.if-not-is_valid_pattern.false in
    no_room _ _ _ _ _ sized formed ordered _ _ _ c.if-columns-entries.true c.clear.ensures c.clear-then-columns-entries.ensures c.clear-then-columns-entries-2.ensures

pub write_sorted-requires : goal.write_sorted-requires
write_sorted-requires c =
    -- what each check that was passed has shown
    let sized : too_large (length c.args.starts.now) (length c.args.entries.now) ≡ false = sym c.is_too_large.ensures ∙ c.if-is_too_large.false in
    let formed : (let a = c.args in wrong_outputs (rows_of a.starts.now) (length a.offsets.now) (length a.columns.now) (length a.splits.now) ≡ false) = sym c.is_wrong_output.ensures ∙ c.if-is_wrong_output.false in
    let ordered : (let a = c.args in valid_pattern a.starts.now a.entries.now ≡ true) = sym c.is_valid_pattern.ensures ∙ c.if-not-is_valid_pattern.false in
    let a = c.args in
    ready_of a.starts.now a.entries.now a.offsets.now a.columns.now a.splits.now sized formed ordered c.if-columns-entries.false

pub returns : goal.returns
returns c =
    -- what each check that was passed has shown
    let sized : too_large (length c.args.starts.now) (length c.args.entries.now) ≡ false = sym c.is_too_large.ensures ∙ c.if-is_too_large.false in
    let formed : (let a = c.args in wrong_outputs (rows_of a.starts.now) (length a.offsets.now) (length a.columns.now) (length a.splits.now) ≡ false) = sym c.is_wrong_output.ensures ∙ c.if-is_wrong_output.false in
    let ordered : (let a = c.args in valid_pattern a.starts.now a.entries.now ≡ true) = sym c.is_valid_pattern.ensures ∙ c.if-not-is_valid_pattern.false in
    all_done _ _ _ _ _ sized formed ordered c.if-columns-entries.false _ _ _ c.write_sorted.ensures
