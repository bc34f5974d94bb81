-- Small assemblies computed from the definitions: where each pair goes, the order of blocks, and the edges of the refusals.
-- Assumes nothing.
use mathlib.Core.Path.{◌≡◌, refl}
use mathlib.Core.List.{List, [], ◌∷◌}
use Prim.Native.Nat.{ℕ}
use lib.IntN.{pos}
use lib.ListN.{replicate}
use lib.Ieee.{Float, binary64, add, of_int, odd, round, units, span, climb, size, sum}
use Rattle.base.specs.All.{all_to}
use Rattle.base.specs.First.{first_in}
use Rattle.base.specs.Iterate.{steps, iterate}
use Rattle.answers.specs.Checks.{first_of}
use Rattle.blocks.specs.Lent.{put_at}
use Rattle.patterns.specs.Pattern.{row_of, first_is_zero, never_fall, last_is_count, all_below, absent_to, once, all_once, own_absent, all_own_absent, valid_offsets, valid_entries, valid_pattern}
use Rattle.rows.specs.Lookup.{place_in}
use Rattle.elements.specs.Pairs.{to_diagonal, entry_at, is_stored, is_row_stored, are_stored}
use Rattle.elements.specs.Assembly.{Lists, add_block, add_pair, add_row, add_all, merged, csrdia_of, blkcsr_of}
use Rattle.elements.specs.Checks.{merge_checks, csrdia_checks, blkcsr_checks}

-- the number k
abbrev plus : ℕ → Float
plus k = of_int binary64 (pos k)

-- n = 2, the pair 0-1 both ways
abbrev pair_offsets : List ℕ
pair_offsets = 0 ∷ 1 ∷ 2 ∷ []

abbrev pair_columns : List ℕ
pair_columns = 1 ∷ 0 ∷ []

-- the element's values 1, 2, 3, 4 go to (0,0), (0,1), (1,0), (1,1): two to the diagonal and two to the entries
pub merge_of_two : ◌≡◌ {A = Lists} (merged binary64 1 (0 ∷ 1 ∷ []) (plus 1 ∷ plus 2 ∷ plus 3 ∷ plus 4 ∷ []) pair_offsets pair_columns (plus 10 ∷ plus 20 ∷ [], plus 30 ∷ plus 40 ∷ []))
    (plus 11 ∷ plus 24 ∷ [], plus 32 ∷ plus 43 ∷ [])
unfolding add_all add_row add_pair add_block to_diagonal entry_at put_at place_in first_in row_of iterate steps add of_int round units span climb size sum odd
merge_of_two = refl

-- with the nodes in the other order it is the other way round
pub merge_of_two_turned : ◌≡◌ {A = Lists} (merged binary64 1 (1 ∷ 0 ∷ []) (plus 1 ∷ plus 2 ∷ plus 3 ∷ plus 4 ∷ []) pair_offsets pair_columns (plus 10 ∷ plus 20 ∷ [], plus 30 ∷ plus 40 ∷ []))
    (plus 14 ∷ plus 21 ∷ [], plus 33 ∷ plus 42 ∷ [])
unfolding add_all add_row add_pair add_block to_diagonal entry_at put_at place_in first_in row_of iterate steps add of_int round units span climb size sum odd
merge_of_two_turned = refl

-- N = 2, of one node: the four values of its block of the diagonal, and no other
pub merge_of_one : ◌≡◌ {A = Lists} (merged binary64 2 (1 ∷ []) (plus 1 ∷ plus 2 ∷ plus 3 ∷ plus 4 ∷ []) pair_offsets pair_columns
    (plus 10 ∷ plus 20 ∷ plus 30 ∷ plus 40 ∷ plus 50 ∷ plus 60 ∷ plus 70 ∷ plus 80 ∷ [], []))
    (plus 10 ∷ plus 20 ∷ plus 30 ∷ plus 40 ∷ plus 51 ∷ plus 62 ∷ plus 73 ∷ plus 84 ∷ [], [])
unfolding add_all add_row add_pair add_block to_diagonal entry_at put_at place_in first_in row_of iterate steps add of_int round units span climb size sum odd
merge_of_one = refl

-- rows (0, 1) and columns (1, 0): the pairs of unequal places have equal numbers, and go to the diagonal
pub csrdia_of_two : ◌≡◌ {A = Lists} (csrdia_of binary64 (0 ∷ 1 ∷ []) (1 ∷ 0 ∷ []) (plus 1 ∷ plus 2 ∷ plus 3 ∷ plus 4 ∷ []) pair_offsets pair_columns (plus 10 ∷ plus 20 ∷ [], plus 30 ∷ plus 40 ∷ []))
    (plus 12 ∷ plus 23 ∷ [], plus 31 ∷ plus 44 ∷ [])
unfolding add_all add_row add_pair add_block to_diagonal entry_at put_at place_in first_in row_of iterate steps add of_int round units span climb size sum odd
csrdia_of_two = refl

-- a row named twice by `csrdia`: what the second addition reads is what the first one wrote
pub csrdia_of_one_twice : ◌≡◌ {A = Lists} (csrdia_of binary64 (0 ∷ 0 ∷ []) (0 ∷ 1 ∷ []) (plus 1 ∷ plus 2 ∷ plus 3 ∷ plus 4 ∷ []) pair_offsets pair_columns (plus 10 ∷ plus 20 ∷ [], plus 30 ∷ plus 40 ∷ []))
    (plus 14 ∷ plus 20 ∷ [], plus 36 ∷ plus 40 ∷ [])
unfolding add_all add_row add_pair add_block to_diagonal entry_at put_at place_in first_in row_of iterate steps add of_int round units span climb size sum odd
csrdia_of_one_twice = refl

-- own columns stored: row 0 has columns 0, 1 and row 1 has 1, 0
abbrev own_offsets : List ℕ
own_offsets = 0 ∷ 2 ∷ 4 ∷ []

abbrev own_columns : List ℕ
own_columns = 0 ∷ 1 ∷ 1 ∷ 0 ∷ []

-- every pair goes to an entry, own column included
pub blkcsr_of_two : blkcsr_of binary64 1 (0 ∷ 1 ∷ []) (0 ∷ 1 ∷ []) (plus 1 ∷ plus 2 ∷ plus 3 ∷ plus 4 ∷ []) own_offsets own_columns (plus 10 ∷ plus 20 ∷ plus 30 ∷ plus 40 ∷ [])
    ≡ plus 11 ∷ plus 22 ∷ plus 34 ∷ plus 43 ∷ []
unfolding add_all add_row add_pair add_block to_diagonal entry_at put_at place_in first_in row_of iterate steps add of_int round units span climb size sum odd
blkcsr_of_two = refl

-- N = 2, the row 1 with the column 0: the four values of entry 1
pub blkcsr_of_a_block : blkcsr_of binary64 2 (1 ∷ []) (0 ∷ []) (plus 1 ∷ plus 2 ∷ plus 3 ∷ plus 4 ∷ []) pair_offsets pair_columns
    (plus 10 ∷ plus 20 ∷ plus 30 ∷ plus 40 ∷ plus 50 ∷ plus 60 ∷ plus 70 ∷ plus 80 ∷ [])
    ≡ plus 10 ∷ plus 20 ∷ plus 30 ∷ plus 40 ∷ plus 51 ∷ plus 62 ∷ plus 73 ∷ plus 84 ∷ []
unfolding add_all add_row add_pair add_block to_diagonal entry_at put_at place_in first_in row_of iterate steps add of_int round units span climb size sum odd
blkcsr_of_a_block = refl

-- a vertex named twice is 7, a node that is n is 6, and both together are 6
pub nodes_refused : (first_of (merge_checks 1 (0 ∷ 1 ∷ []) 4 pair_offsets pair_columns 2 2) ≡ 0) × (first_of (merge_checks 1 (0 ∷ 0 ∷ []) 4 pair_offsets pair_columns 2 2) ≡ 7)
    × (first_of (merge_checks 1 (0 ∷ 2 ∷ []) 4 pair_offsets pair_columns 2 2) ≡ 6) × (first_of (merge_checks 1 (0 ∷ 0 ∷ 2 ∷ []) 9 pair_offsets pair_columns 2 2) ≡ 6)
unfolding are_stored is_row_stored is_stored to_diagonal place_in first_in valid_pattern valid_entries valid_offsets first_is_zero never_fall last_is_count all_below all_once once all_own_absent own_absent absent_to row_of all_to
nodes_refused = (refl, refl, refl, refl)

-- `csrdia` names a vertex twice without asking for an entry of its own column; a column that is n is 6 as a row is
pub numbers_refused : (first_of (csrdia_checks (0 ∷ 0 ∷ []) (0 ∷ 1 ∷ []) 4 pair_offsets pair_columns 2 2) ≡ 0) × (first_of (csrdia_checks (0 ∷ []) (2 ∷ []) 1 pair_offsets pair_columns 2 2) ≡ 6)
unfolding are_stored is_row_stored is_stored to_diagonal place_in first_in valid_pattern valid_entries valid_offsets first_is_zero never_fall last_is_count all_below all_once once all_own_absent own_absent absent_to row_of all_to
numbers_refused = (refl, refl)

-- an own column is 3 for `merge` and may stand for `blkcsr`, which asks for it
pub own_column : (first_of (merge_checks 1 (0 ∷ 1 ∷ []) 4 own_offsets own_columns 2 4) ≡ 3) × (first_of (blkcsr_checks 1 (0 ∷ 1 ∷ []) (0 ∷ 1 ∷ []) 4 own_offsets own_columns 4) ≡ 0)
    × (first_of (blkcsr_checks 1 (0 ∷ 1 ∷ []) (0 ∷ 1 ∷ []) 4 pair_offsets pair_columns 2) ≡ 7)
unfolding are_stored is_row_stored is_stored to_diagonal place_in first_in valid_pattern valid_entries valid_offsets first_is_zero never_fall last_is_count all_below all_once once all_own_absent own_absent absent_to row_of all_to
own_column = (refl, refl, refl)

-- no node, nine nodes, lists of two lengths, and each slice one value too long
pub lengths_refused : (first_of (merge_checks 1 [] 0 pair_offsets pair_columns 2 2) ≡ 2) × (first_of (merge_checks 1 (replicate 9 0) 81 pair_offsets pair_columns 2 2) ≡ 2)
    × (first_of (csrdia_checks (0 ∷ 1 ∷ []) (0 ∷ []) 4 pair_offsets pair_columns 2 2) ≡ 2) × (first_of (merge_checks 2 (0 ∷ 1 ∷ []) 17 pair_offsets pair_columns 8 8) ≡ 2)
    × (first_of (merge_checks 2 (0 ∷ 1 ∷ []) 16 pair_offsets pair_columns 9 8) ≡ 2) × (first_of (blkcsr_checks 3 (0 ∷ 1 ∷ []) (0 ∷ 1 ∷ []) 36 pair_offsets pair_columns 19) ≡ 2)
lengths_refused = (refl, refl, refl, refl, refl, refl)
