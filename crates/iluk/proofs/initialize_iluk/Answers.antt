-- `initialize_iluk` meets its promise: each way out is its number.
-- Assumes nothing.
use mathlib.Core.Path.{◌≡◌, sym, ◌∙◌}
use mathlib.Core.Bool.{true, false}
use Prim.Native.Nat.{◌-◌, ◌≤◌}
use native.Mathlib.Omega.{arith}
use lib.ListN.{length}
use Rattle.patterns.specs.Pattern.{rows_of, valid_pattern}
use Rattle.patterns.specs.Checks.{too_large}
use Rattle.patterns.proofs.SizeLaws.{rows_least, rows_most}
use Rattle.iluk.specs.Checks.{wrong_lengths}
use Rattle.iluk.proofs.AnswerLaws.{wrong_size, wrong_shape_lem, wrong_pattern, rows_long, shaped_of, all_done, no_room}
use Rattle.iluk.proofs.initialize_iluk.Goals as goal

pub returns-then-is_too_large : goal.returns-then-is_too_large
returns-then-is_too_large c = wrong_size _ _ _ _ _ _ _ _ (sym c.is_too_large.ensures ∙ c.if-is_too_large.true)

pub overflow_sub-n : goal.overflow_sub-n
overflow_sub-n c =
    -- what each check that was passed has shown
    let sized : too_large (length c.args.starts.now) (length c.args.entries.now) ≡ false = sym c.is_too_large.ensures ∙ c.if-is_too_large.false in
    let few : (1 ≤ length c.args.starts.now - 1) × (length c.args.starts.now - 1 ≤ 4096) = let o = length c.args.starts.now in
    let e = length c.args.entries.now in
    (rows_least o e sized, rows_most o e sized) in
    omega (arith, few)

pub returns-then-has_wrong_lengths : goal.returns-then-has_wrong_lengths
returns-then-has_wrong_lengths c =
    -- what each check that was passed has shown
    let sized : too_large (length c.args.starts.now) (length c.args.entries.now) ≡ false = sym c.is_too_large.ensures ∙ c.if-is_too_large.false in
    wrong_shape_lem _ _ _ _ _ _ _ _ sized (sym c.has_wrong_lengths.ensures ∙ c.if-has_wrong_lengths.true)

pub is_valid_pattern-requires : goal.is_valid_pattern-requires
is_valid_pattern-requires c =
    -- what each check that was passed has shown
    let sized : too_large (length c.args.starts.now) (length c.args.entries.now) ≡ false = sym c.is_too_large.ensures ∙ c.if-is_too_large.false in
    sized

pub returns-then-not-is_valid_pattern : goal.returns-then-not-is_valid_pattern
returns-then-not-is_valid_pattern c =
    -- what each check that was passed has shown
    let sized : too_large (length c.args.starts.now) (length c.args.entries.now) ≡ false = sym c.is_too_large.ensures ∙ c.if-is_too_large.false in
    let formed : (let a = c.args in
    wrong_lengths (rows_of a.starts.now) (length a.offsets.now) (length a.columns.now) (length a.splits.now) (length a.levels.now) (length a.row.now) ≡ false) = sym c.has_wrong_lengths.ensures ∙ c.if-has_wrong_lengths.false in
    wrong_pattern _ _ _ _ _ _ _ _ sized formed (sym c.is_valid_pattern.ensures ∙ c.if-not-is_valid_pattern.true)

pub overflow_cast-n : goal.overflow_cast-n
overflow_cast-n c =
    -- what each check that was passed has shown
    let sized : too_large (length c.args.starts.now) (length c.args.entries.now) ≡ false = sym c.is_too_large.ensures ∙ c.if-is_too_large.false in
    let few : (1 ≤ length c.args.starts.now - 1) × (length c.args.starts.now - 1 ≤ 4096) = let o = length c.args.starts.now in
    let e = length c.args.entries.now in
    (rows_least o e sized, rows_most o e sized) in
    omega (arith, few)

pub write_fill-requires : goal.write_fill-requires
write_fill-requires c =
    -- what each check that was passed has shown
    let sized : too_large (length c.args.starts.now) (length c.args.entries.now) ≡ false = sym c.is_too_large.ensures ∙ c.if-is_too_large.false in
    let formed : (let a = c.args in
    wrong_lengths (rows_of a.starts.now) (length a.offsets.now) (length a.columns.now) (length a.splits.now) (length a.levels.now) (length a.row.now) ≡ false) = sym c.has_wrong_lengths.ensures ∙ c.if-has_wrong_lengths.false in
    let ordered : (let a = c.args in valid_pattern a.starts.now a.entries.now ≡ true) = sym c.is_valid_pattern.ensures ∙ c.if-not-is_valid_pattern.false in
    let a = c.args in record {
      row_len = rows_long a.k a.starts.now a.entries.now a.offsets.now a.columns.now a.splits.now a.levels.now a.row.now sized formed ordered;
      shaped = shaped_of a.k _ _ _ _ _ _ _ sized formed ordered;
    }

pub returns-then-not-write_fill : goal.returns-then-not-write_fill
returns-then-not-write_fill c =
    -- what each check that was passed has shown
    let sized : too_large (length c.args.starts.now) (length c.args.entries.now) ≡ false = sym c.is_too_large.ensures ∙ c.if-is_too_large.false in
    let formed : (let a = c.args in
    wrong_lengths (rows_of a.starts.now) (length a.offsets.now) (length a.columns.now) (length a.splits.now) (length a.levels.now) (length a.row.now) ≡ false) = sym c.has_wrong_lengths.ensures ∙ c.if-has_wrong_lengths.false in
    let ordered : (let a = c.args in valid_pattern a.starts.now a.entries.now ≡ true) = sym c.is_valid_pattern.ensures ∙ c.if-not-is_valid_pattern.false in
    no_room _ _ _ _ _ _ _ _ sized formed ordered _ _ _ _ _ _ c.write_fill.ensures c.if-not-write_fill.true

pub returns : goal.returns
returns c =
    -- what each check that was passed has shown
    let sized : too_large (length c.args.starts.now) (length c.args.entries.now) ≡ false = sym c.is_too_large.ensures ∙ c.if-is_too_large.false in
    let formed : (let a = c.args in
    wrong_lengths (rows_of a.starts.now) (length a.offsets.now) (length a.columns.now) (length a.splits.now) (length a.levels.now) (length a.row.now) ≡ false) = sym c.has_wrong_lengths.ensures ∙ c.if-has_wrong_lengths.false in
    let ordered : (let a = c.args in valid_pattern a.starts.now a.entries.now ≡ true) = sym c.is_valid_pattern.ensures ∙ c.if-not-is_valid_pattern.false in
    all_done _ _ _ _ _ _ _ _ sized formed ordered _ _ _ _ _ _ c.write_fill.ensures c.if-not-write_fill.false
