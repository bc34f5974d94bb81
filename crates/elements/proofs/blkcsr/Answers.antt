-- `blkcsr` meets its promise: the lengths decide first, then the pattern, then the nodes and pairs; no pair goes to the diagonal.
-- Assumes nothing.
use Rattle.std.proofs.Common.{rules}
use Rattle.answers.proofs.SameAnswer.{passed_up}
use mathlib.Core.Path.{◌≡◌, refl, sym, ◌∙◌}
use mathlib.Core.List.{List}
use mathlib.Core.Bool.{Bool, true}
use lib.ListN.{length}
use Rattle.answers.specs.Checks.{Check, first_of, none_holds}
use Rattle.answers.proofs.EndLaws.{none_of_zero}
use Rattle.patterns.specs.Pattern.{valid_entries}
use Rattle.elements.specs.declared.unchecked.Rule.TheVariants.{Never}
use Rattle.elements.specs.Assembly.{Lists}
use Rattle.elements.specs.Checks.{entry_lengths, pair_checks}
use Rattle.lent.proofs.DimLaws.{dim_of}
use Rattle.elements.proofs.CheckLaws.{sized, fits_never}
use Rattle.elements.proofs.EndsLaws.{lengths_refused, pattern_refused, later_decide, ends_of}
use Rattle.elements.proofs.blkcsr.Goals as goal

pub returns-in_err-check_entry_lengths : goal.returns-in_err-check_entry_lengths
returns-in_err-check_entry_lengths g c =
    let on = passed_up (search rules) c.in_err-check_entry_lengths.ensures in
    -- the checks in their three parts
    let lengths : List Check = let a = c.args in
    entry_lengths g.S.Size.DIM (length a.rows.now) (length a.cols.now) (length a.element.now) (length a.offsets.now) (length a.columns.now)
    (length a.values.now) in
    let valid : Bool = valid_entries c.args.offsets.now c.args.columns.now in
    let later : List Check = let a = c.args in pair_checks Never a.rows.now a.cols.now a.offsets.now a.columns.now in
    lengths_refused lengths later valid _ _ _ on.number on.counts

pub is_valid_entries-requires : goal.is_valid_entries-requires
is_valid_entries-requires g c =
    -- the checks in their three parts
    let lengths : List Check = let a = c.args in
    entry_lengths g.S.Size.DIM (length a.rows.now) (length a.cols.now) (length a.element.now) (length a.offsets.now) (length a.columns.now)
    (length a.values.now) in
    -- past the first test no length is refused, past the second the pattern is valid
    let passed : first_of lengths ≡ 0 = sym c.in_ok-check_entry_lengths.ensures in
    let a = c.args in
    sized g.S.Size.DIM (length a.rows.now) (length a.cols.now) (length a.element.now) (length a.offsets.now) (length a.columns.now) (length a.values.now) passed

pub returns-then-not-is_valid_entries : goal.returns-then-not-is_valid_entries
returns-then-not-is_valid_entries g c =
    -- the checks in their three parts
    let lengths : List Check = let a = c.args in
    entry_lengths g.S.Size.DIM (length a.rows.now) (length a.cols.now) (length a.element.now) (length a.offsets.now) (length a.columns.now)
    (length a.values.now) in
    let valid : Bool = valid_entries c.args.offsets.now c.args.columns.now in
    let later : List Check = let a = c.args in pair_checks Never a.rows.now a.cols.now a.offsets.now a.columns.now in
    -- past the first test no length is refused, past the second the pattern is valid
    let passed : first_of lengths ≡ 0 = sym c.in_ok-check_entry_lengths.ensures in
    let none : none_holds lengths ≡ true = none_of_zero lengths refl passed in
    pattern_refused lengths later valid _ _ none (sym c.is_valid_entries.ensures ∙ c.if-not-is_valid_entries.true)

pub assemble-requires : goal.assemble-requires
assemble-requires g c =
    -- the checks in their three parts
    let lengths : List Check = let a = c.args in
    entry_lengths g.S.Size.DIM (length a.rows.now) (length a.cols.now) (length a.element.now) (length a.offsets.now) (length a.columns.now)
    (length a.values.now) in
    let valid : Bool = valid_entries c.args.offsets.now c.args.columns.now in
    -- past the first test no length is refused, past the second the pattern is valid
    let passed : first_of lengths ≡ 0 = sym c.in_ok-check_entry_lengths.ensures in
    let right : valid ≡ true = sym c.is_valid_entries.ensures ∙ c.if-not-is_valid_entries.false in
    let a = c.args in
    fits_never g.S.Size.DIM a.rows.now a.cols.now (length a.element.now) a.offsets.now a.columns.now _ (length a.values.now) (dim_of g.met.S.Size.sizes)
    passed right

pub returns : goal.returns
returns g c =
    -- the checks in their three parts
    let lengths : List Check = let a = c.args in
    entry_lengths g.S.Size.DIM (length a.rows.now) (length a.cols.now) (length a.element.now) (length a.offsets.now) (length a.columns.now)
    (length a.values.now) in
    let valid : Bool = valid_entries c.args.offsets.now c.args.columns.now in
    let later : List Check = let a = c.args in pair_checks Never a.rows.now a.cols.now a.offsets.now a.columns.now in
    -- past the first test no length is refused, past the second the pattern is valid
    let passed : first_of lengths ≡ 0 = sym c.in_ok-check_entry_lengths.ensures in
    let none : none_holds lengths ≡ true = none_of_zero lengths refl passed in
    let right : valid ≡ true = sym c.is_valid_entries.ensures ∙ c.if-not-is_valid_entries.false in
    later_decide lengths later valid _ _ none right _ _ (ends_of (λ (lists : Lists). lists.1) later _ _ _ _ c.assemble.ensures)
