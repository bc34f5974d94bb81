-- `initialize_full` meets its promise: each way out is its number.
-- Assumes nothing.
use mathlib.Core.Path.{◌≡◌, refl, sym, ◌∙◌}
use mathlib.Core.Bool.{false}
use native.Mathlib.Omega.{arith}
use lib.ListN.{length}
use Rattle.answers.specs.Limits.{rows_out_of_range}
use Rattle.fill.specs.Promise.{wrong_outputs}
use Rattle.full.proofs.AnswerLaws.{rows_least, rows_most, few_entries, wrong_size, wrong_shape_lem, no_room, roomy_of, all_done}
use Rattle.full.proofs.initialize_full.Goals as goal

pub returns-then-out_of_range : goal.returns-then-out_of_range
returns-then-out_of_range c = wrong_size _ _ _ _ (sym c.out_of_range.ensures ∙ c.if-out_of_range.true)

pub returns-then-is_wrong_output : goal.returns-then-is_wrong_output
returns-then-is_wrong_output c =
    -- what each check that was passed has shown
    let sized : rows_out_of_range c.args.n ≡ false = sym c.out_of_range.ensures ∙ c.if-out_of_range.false in
    wrong_shape_lem _ _ _ _ sized (sym c.is_wrong_output.ensures ∙ c.if-is_wrong_output.true)

pub overflow_sub-all : goal.overflow_sub-all
overflow_sub-all c =
    -- what each check that was passed has shown
    let sized : rows_out_of_range c.args.n ≡ false = sym c.out_of_range.ensures ∙ c.if-out_of_range.false in
    omega (arith, rows_least c.args.n sized)

pub overflow_mul-all : goal.overflow_mul-all
overflow_mul-all c =
    -- what each check that was passed has shown
    let sized : rows_out_of_range c.args.n ≡ false = sym c.out_of_range.ensures ∙ c.if-out_of_range.false in
    let n = c.args.n in
    omega (arith, few_entries n (rows_most n sized))

pub returns-then-columns-all : goal.returns-then-columns-all
returns-then-columns-all c =
    -- what each check that was passed has shown
    let sized : rows_out_of_range c.args.n ≡ false = sym c.out_of_range.ensures ∙ c.if-out_of_range.false in
    let formed : (let a = c.args in wrong_outputs a.n (length a.offsets.now) (length a.columns.now) (length a.splits.now) ≡ false) = sym c.is_wrong_output.ensures ∙ c.if-is_wrong_output.false in
    no_room _ _ _ _ sized formed _ _ _ c.if-columns-all.true c.clear.ensures c.clear-then-columns-all.ensures c.clear-then-columns-all-2.ensures

pub write_rows-requires : goal.write_rows-requires
write_rows-requires c =
    -- what each check that was passed has shown
    let sized : rows_out_of_range c.args.n ≡ false = sym c.out_of_range.ensures ∙ c.if-out_of_range.false in
    let formed : (let a = c.args in wrong_outputs a.n (length a.offsets.now) (length a.columns.now) (length a.splits.now) ≡ false) = sym c.is_wrong_output.ensures ∙ c.if-is_wrong_output.false in
    let a = c.args in
    roomy_of a.n a.offsets.now a.columns.now a.splits.now sized formed c.if-columns-all.false

pub returns : goal.returns
returns c =
    -- what each check that was passed has shown
    let sized : rows_out_of_range c.args.n ≡ false = sym c.out_of_range.ensures ∙ c.if-out_of_range.false in
    let formed : (let a = c.args in wrong_outputs a.n (length a.offsets.now) (length a.columns.now) (length a.splits.now) ≡ false) = sym c.is_wrong_output.ensures ∙ c.if-is_wrong_output.false in
    let a = c.args in
    all_done a.n a.offsets.now a.columns.now a.splits.now sized formed c.if-columns-all.false _ _ _ _ _ c.write_rows.ensures c.clear-2.ensures refl
