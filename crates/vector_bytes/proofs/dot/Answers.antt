-- `dot` meets its promise, refused and done.
-- Assumes nothing.
use mathlib.Core.Path.{◌≡◌, refl, sym, ap, ◌∙◌}
use mathlib.Core.List.{[], ◌∷◌}
use mathlib.Core.Bool.{true}
use lib.ListN.{length}
use Rattle.std.proofs.Common.{rules}
use Rattle.answers.specs.Numbers.{number_of}
use Rattle.answers.specs.Checks.{none_holds}
use Rattle.answers.proofs.EndLaws.{none_of_zero}
use Rattle.vectors.proofs.DotLaws.{refused_dot}
use Rattle.vector_bytes.specs.Checks.{words, call_checks}
use Rattle.vector_bytes.proofs.NumberedLaws.{summed}
use Rattle.vector_bytes.proofs.dot.Goals as goal

pub dot_of-requires : goal.dot_of-requires
dot_of-requires c =
    -- where the answer is Done no check holds
    let passed : (let a = c.args in
    none_holds (call_checks a.n a.dim (words 8 (length a.v0.now) ∷ words 8 (length a.v1.now) ∷ [])) ≡ true) = let a = c.args in
    none_of_zero (call_checks a.n a.dim (words 8 (length a.v0.now) ∷ words 8 (length a.v1.now) ∷ [])) refl
    (sym c.in_ok-check.ensures) in
    passed

pub returns : goal.returns
returns c =
    -- where the answer is Done no check holds
    let passed : (let a = c.args in
    none_holds (call_checks a.n a.dim (words 8 (length a.v0.now) ∷ words 8 (length a.v1.now) ∷ [])) ≡ true) = let a = c.args in
    none_of_zero (call_checks a.n a.dim (words 8 (length a.v0.now) ∷ words 8 (length a.v1.now) ∷ [])) refl
    (sym c.in_ok-check.ensures) in
    summed _ _ _ passed c.dot_of.ensures.0 c.dot_of.ensures.1

pub returns-in_err-check : goal.returns-in_err-check
returns-in_err-check c = refused_dot _ _ refl _ _ (search rules) c.in_err-check.ensures
