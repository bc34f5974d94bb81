-- Document 01, "Numbers to check by hand", case 12, and a few more roots, computed from the definitions.
-- `sqrt` is an answer by `sqrt_answers` of `proofs/Meaning.antt`, so each equation is also a fact of `Rooted`. Assumes nothing.
use mathlib.Core.Path.{◌≡◌, refl, subst}
use mathlib.Core.Bool.{true, false}
use lib.IntN.{pos, negsuc}
use lib.Ieee.{nan, inf, fin, binary32, binary64, of_bits, fits}
use Rattle.root.specs.Root.{Root, Rooted}
use Rattle.root.specs.Sqrt.{sqrt}
use Rattle.root.proofs.Meaning.{sqrt_answers}
use Rattle.root.proofs.Exact.{exact_root}

-- Case 12: the root of 2 has the bits 3FF6A09E667F3BCD.
pub sqrt_of_two : sqrt binary64 (fin false 1 (pos 1)) ≡ of_bits binary64 0x3FF6A09E667F3BCD
unfolding sqrt of_bits
sqrt_of_two = refl

pub root_of_two : Root binary64 (fin false 1 (pos 1)) (of_bits binary64 0x3FF6A09E667F3BCD)
unfolding fits
root_of_two = subst (Root binary64 (fin false 1 (pos 1))) sqrt_of_two (sqrt_answers binary64 (fin false 1 (pos 1)) tt)

-- Case 12: the root of 2 ^ -1074 is 2 ^ -537 (`negsuc k` is -1 - k).
pub sqrt_of_smallest : sqrt binary64 (fin false 1 (negsuc 1073)) ≡ fin false 1 (negsuc 536)
unfolding sqrt
sqrt_of_smallest = refl

pub root_of_smallest : Root binary64 (fin false 1 (negsuc 1073)) (fin false 1 (negsuc 536))
unfolding fits
root_of_smallest = exact_root binary64 (fin false 1 (negsuc 1073)) (fin false 1 (negsuc 536)) tt tt refl

-- the largest double and the largest subnormal one
pub sqrt_of_largest : sqrt binary64 (of_bits binary64 0x7FEFFFFFFFFFFFFF) ≡ of_bits binary64 0x5FEFFFFFFFFFFFFF
unfolding sqrt of_bits
sqrt_of_largest = refl

pub sqrt_of_largest_subnormal : sqrt binary64 (of_bits binary64 0x000FFFFFFFFFFFFF) ≡ of_bits binary64 0x1FFFFFFFFFFFFFFF
unfolding sqrt of_bits
sqrt_of_largest_subnormal = refl

-- the doubles beside 1: the root of the one below is that one, and of the one above it is 1
pub sqrt_below_one : sqrt binary64 (of_bits binary64 0x3FEFFFFFFFFFFFFF) ≡ of_bits binary64 0x3FEFFFFFFFFFFFFF
unfolding sqrt of_bits
sqrt_below_one = refl

pub sqrt_above_one : sqrt binary64 (of_bits binary64 0x3FF0000000000001) ≡ of_bits binary64 0x3FF0000000000000
unfolding sqrt of_bits
sqrt_above_one = refl

-- -0 keeps its sign, and minus infinity and -1 give NaN
pub answer_of_minus_zero : Rooted binary64 (fin true 0 (pos 0)) (fin true 0 (pos 0))
answer_of_minus_zero = refl

pub answer_of_minus_infinity : Rooted binary64 (inf true) nan
answer_of_minus_infinity = refl

pub answer_of_minus_one : Rooted binary64 (fin true 1 (pos 0)) nan
answer_of_minus_one = refl

-- the other format: the roots of 2 and of 2 ^ -149
pub sqrt_of_two_single : sqrt binary32 (of_bits binary32 0x40000000) ≡ of_bits binary32 0x3FB504F3
unfolding sqrt of_bits
sqrt_of_two_single = refl

pub sqrt_of_smallest_single : sqrt binary32 (of_bits binary32 1) ≡ of_bits binary32 0x1A3504F3
unfolding sqrt of_bits
sqrt_of_smallest_single = refl
